use mathlib.Core.Path.{sym, ◌∙◌}
use borrow.Author.Tests.{leb-true}
use Rattle.lists.proofs.Tests.{never}
use Rattle.grammar.proofs.Standing.{property-read}
use Rattle.grammar.proofs.is_property.Goals as goal
use Rattle.grammar.proofs.is_property.Goals.{then-stands, else-stands, then-value-le1, else-value-le1}

pub returns-then-is_name : goal.returns-then-is_name
returns-then-is_name c = λ e p i. elim c.if-value-le1.branch [
  | then-value-le1 x ↦ elim c.if-stands.branch [
    | then-stands y ↦ property-read _ _ _ _ p i y.value.ensures (c.stands.ensures y.if-stands.true)
        (leb-true _ _ (sym y.value-is ∙ x.if-value-le1.true)) (x.is_name.ensures (sym x.value-is ∙ c.if-is_name.true))
        (c.is_type.ensures e)
    | else-stands y ↦ never (sym y.if-stands.false ∙ sym y.value-is ∙ x.if-value-le1.true)
  ]
  | else-value-le1 x ↦ never (sym x.if-value-le1.false ∙ sym x.value-is ∙ c.if-is_name.true)
]
