use native.Mathlib.Omega.{arith}
use mathlib.Core.Path.{sym, ◌∙◌}
use Rattle.lists.proofs.Tests.{pick_true, pick-false}
use Rattle.in_order.proofs.once.list_new.Goals as goal

pub returns-then-mark-clause-marks_after : goal.returns-then-mark-clause-marks_after
returns-then-mark-clause-marks_after c =
    let e = sym c.mark.ensures.0 ∙ c.if-mark.true in c.mark.ensures.1

pub returns-then-mark-clause-value : goal.returns-then-mark-clause-value
returns-then-mark-clause-value c =
    let e = sym c.mark.ensures.0 ∙ c.if-mark.true in sym (pick_true _ _ e)

pub returns-then-mark-clause-list_after : goal.returns-then-mark-clause-list_after
returns-then-mark-clause-list_after c =
    let e = sym c.mark.ensures.0 ∙ c.if-mark.true in sym (pick_true _ _ e)

pub offset_bounds-list-many : goal.offset_bounds-list-many
offset_bounds-list-many c =
    omega (arith, c.requires.many_in_bounds (sym c.mark.ensures.0 ∙ c.if-mark.false))

pub bounds-list-many : goal.bounds-list-many
bounds-list-many c =
    omega (arith, c.requires.many_in_bounds (sym c.mark.ensures.0 ∙ c.if-mark.false))

pub overflow_add-result : goal.overflow_add-result
overflow_add-result c =
    omega (arith, c.requires.many_in_bounds (sym c.mark.ensures.0 ∙ c.if-mark.false))

pub returns-clause-marks_after : goal.returns-clause-marks_after
returns-clause-marks_after c =
    let e = sym c.mark.ensures.0 ∙ c.if-mark.false in c.mark.ensures.1

pub returns-clause-value : goal.returns-clause-value
returns-clause-value c =
    let e = sym c.mark.ensures.0 ∙ c.if-mark.false in sym (pick-false _ _ e)

pub returns-clause-list_after : goal.returns-clause-list_after
returns-clause-list_after c =
    let e = sym c.mark.ensures.0 ∙ c.if-mark.false in sym (pick-false _ _ e)
