use mathlib.Core.Path.{sym, ◌∙◌}
use borrow.Author.Tests.{leb-true, leb-false}
use Rattle.lists.proofs.Tests.{never}
use Rattle.grammar.proofs.Judged.{allowed-kind, allowed-value, allowed-bound}
use Rattle.grammar.proofs.allowed.Goals as goal
use Rattle.grammar.proofs.allowed.Goals.{then-takes_kind, else-takes_kind}

pub returns-then-value-most_of : goal.returns-then-value-most_of
returns-then-value-most_of c = elim c.if-takes_kind.branch [
  | then-takes_kind w ↦ c.in_bounds.ensures
      ∙ allowed-bound _ _ _ _ _ c.kind-kind.ensures c.value-value.ensures _ c.takes_kind.ensures w.if-takes_kind.true _ w.most_of.ensures
      (leb-true _ _ (sym w.value-is ∙ c.if-value-most_of.true))
  | else-takes_kind w ↦ never (sym w.if-takes_kind.false ∙ sym w.value-is ∙ c.if-value-most_of.true)
]

pub returns-else-value-most_of : goal.returns-else-value-most_of
returns-else-value-most_of c = elim c.if-takes_kind.branch [
  | then-takes_kind w ↦ c.if-value-most_of.false
      ∙ allowed-value _ _ _ _ _ c.kind-kind.ensures c.value-value.ensures _ c.takes_kind.ensures w.if-takes_kind.true _ w.most_of.ensures
      (leb-false _ _ (sym w.value-is ∙ c.if-value-most_of.false))
  | else-takes_kind w ↦ w.value-is
      ∙ allowed-kind _ _ _ _ _ c.kind-kind.ensures c.value-value.ensures _ c.takes_kind.ensures w.if-takes_kind.false
]
