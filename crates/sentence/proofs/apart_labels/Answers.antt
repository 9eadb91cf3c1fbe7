use native.Mathlib.Omega.{arith}
use mathlib.Core.Path.{◌∙◌}
use Rattle.text.specs.Text.{bytes}
use Rattle.phrase.proofs.Laws.{put-join, put-length}
use Rattle.sentence.specs.Sentence.{apart_text}
use Rattle.sentence.proofs.apart_labels.Goals as goal

pub returns : goal.returns
unfolding bytes apart_text
returns c = (
  put-join (put-join c.put-start.ensures c.put_labels-end.ensures.0)
      c.put.ensures,
  omega (
    arith,
    c.put-start.ensures.ends,
    c.put_labels-end.ensures.1,
    c.put.ensures.ends,
  ),
)
