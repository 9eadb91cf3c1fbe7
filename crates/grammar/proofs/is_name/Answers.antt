use borrow.Author.Tests.{ltb-true}
use Rattle.grammar.proofs.Standing.{name-read}
use Rattle.grammar.proofs.is_name.Goals as goal

pub returns-then-stands : goal.returns-then-stands
returns-then-stands c =
    λ e. name-read _ _ (c.stands.ensures c.if-stands.true) c.requires.names c.requires.few_names c.value.ensures (ltb-true _ _ e)
