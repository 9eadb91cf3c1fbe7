use native.Mathlib.Omega.{arith}
use mathlib.Core.Path.{sym, ap, ◌∙◌}
use Rattle.phrase.proofs.Laws.{put-none, put_as, put-length}
use Rattle.sentence.specs.Sentence.{got}
use Rattle.sentence.proofs.put_got.Goals as goal

pub returns-in_default : goal.returns-in_default
returns-in_default c = (
  put_as (ap got (sym c.in_default.is ∙ c.infer_literal_type.ensures)) put-none,
  omega arith,
)

pub returns : goal.returns
returns c = (
  put_as (ap got (sym c.in-Some.is ∙ c.infer_literal_type.ensures))
      c.put_type_name.ensures.0,
  c.put_type_name.ensures.1,
)
