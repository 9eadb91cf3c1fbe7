use borrow.Author.Tests.{leb-true}
use Rattle.grammar.proofs.Standing.{type-read}
use Rattle.grammar.proofs.is_type.Goals as goal

pub returns-then-stands : goal.returns-then-stands
returns-then-stands c =
    λ e. type-read _ (c.stands.ensures c.if-stands.true) c.value.ensures (leb-true _ _ e)
