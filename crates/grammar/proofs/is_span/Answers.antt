use native.Mathlib.Omega.{arith}
use mathlib.Core.Path.{sym, ◌∙◌}
use borrow.Author.Tests.{leb-true}
use Rattle.lists.proofs.Tests.{never}
use Rattle.grammar.proofs.Standing.{both_ends}
use Rattle.grammar.proofs.is_span.Goals as goal
use Rattle.grammar.proofs.is_span.Goals.{then-stands, else-stands}

pub returns-then-stands-2 : goal.returns-then-stands-2
returns-then-stands-2 c = λ e. elim c.if-stands.branch [
  | then-stands w ↦ both_ends _ _ _ _ _ (c.stands.ensures w.if-stands.true)
      (w.stands-then-stands.ensures (sym w.value-is ∙ c.if-stands-2.true))
      c.value.ensures c.value-then-stands-2.ensures (omega (arith, c.value.type_inv)) (omega (arith, c.value-then-stands-2.type_inv)) (leb-true _ _ e)
  | else-stands w ↦ never (sym w.if-stands.false ∙ sym w.value-is ∙ c.if-stands-2.true)
]
