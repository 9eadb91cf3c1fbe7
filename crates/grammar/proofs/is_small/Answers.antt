use borrow.Author.Tests.{eqb-true}
use Rattle.grammar.proofs.Standing.{small-read}
use Rattle.grammar.proofs.is_small.Goals as goal

pub returns-then-stands : goal.returns-then-stands
returns-then-stands c =
    λ e. small-read _ (c.stands.ensures c.if-stands.true) c.value.ensures (eqb-true _ _ e)
