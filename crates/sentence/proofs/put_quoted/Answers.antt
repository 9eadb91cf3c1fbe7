use native.Mathlib.Omega.{arith}
use mathlib.Core.Path.{◌∙◌}
use Rattle.phrase.proofs.Laws.{put-join, put-length}
use Rattle.sentence.proofs.put_quoted.Goals as goal

pub put_name-end-requires-clause-name_at : goal.put_name-end-requires-clause-name_at
put_name-end-requires-clause-name_at c =
    c.requires.name_at

pub returns : goal.returns
returns c = (
  put-join (put-join c.put-start.ensures c.put_name-end.ensures.0)
      c.put.ensures,
  omega (
    arith,
    c.put-start.ensures.ends,
    c.put.ensures.ends,
    c.requires.before_len_bound,
    c.requires.after_len_bound,
    c.put_name-end.ensures.1,
  ),
)
