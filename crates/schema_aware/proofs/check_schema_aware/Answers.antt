use mathlib.Core.Path.{sym, ◌∙◌}
use Rattle.std.proofs.lemmas.Result.{err_from_is_err_and}
use Rattle.schema.proofs.Effects.{both-refuse}
use Rattle.opening.proofs.Both.{read-refused}
use Rattle.schema_aware.specs.Check.{check_effect}
use Rattle.schema_aware.proofs.check_schema_aware.Goals as goal

pub check_read-requires : goal.check_read-requires
check_read-requires c =
    sym c.read_both.ensures ∙ c.in_ok-sizes.was

pub returns-in_err-sizes : goal.returns-in_err-sizes
unfolding check_effect
returns-in_err-sizes c =
    let p = err_from_is_err_and c.from_residual.result c.from_residual.ensures.1 in
    rw (p.1, p.2)
    (both-refuse _ _ _ _ _ (read-refused _ _ _ _ c.read_both.ensures c.in_err-sizes.was) _ c.in_err-sizes.was)
