use native.Mathlib.Omega.{arith}
use mathlib.Core.Path.{◌∙◌}
use Rattle.text.specs.Text.{bytes}
use Rattle.phrase.proofs.Laws.{put-join, put-length}
use Rattle.sentence.specs.Sentence.{unbacked_text}
use Rattle.sentence.proofs.unbacked_key.Goals as goal

pub returns : goal.returns
unfolding bytes unbacked_text
returns c = (
  put-join (put-join (put-join (put-join c.put-start.ensures
      c.put_key_set-keyed.ensures.0) c.put-on.ensures) c.put_on_names-end.ensures.0) c.put.ensures,
  omega (
    arith,
    c.put-start.ensures.ends,
    c.put_key_set-keyed.ensures.1,
    c.put-on.ensures.ends,
    c.put_on_names-end.ensures.1,
    c.put.ensures.ends,
  ),
)
