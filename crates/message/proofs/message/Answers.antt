use mathlib.Core.Path.{sym, ◌∙◌}
use Rattle.std.proofs.lemmas.Result.{err_from_is_err_and}
use Rattle.schema.proofs.Effects.{both-refuse}
use Rattle.opening.proofs.Both.{read-refused}
use Rattle.message.specs.Said.{message_effect}
use Rattle.message.proofs.message.Goals as goal

pub message_read-requires : goal.message_read-requires
message_read-requires c =
    sym c.read_both.ensures ∙ c.in_ok-sizes.was

pub returns-in_err-sizes : goal.returns-in_err-sizes
unfolding message_effect
returns-in_err-sizes c =
    let p = err_from_is_err_and c.from_residual.result c.from_residual.ensures.1 in
    rw (p.1, p.2)
    (both-refuse _ _ _ _ _ (read-refused _ _ _ _ c.read_both.ensures c.in_err-sizes.was) _ c.in_err-sizes.was)
