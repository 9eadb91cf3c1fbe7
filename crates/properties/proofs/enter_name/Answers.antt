use Rattle.lists.proofs.Tests.{pick_true, pick-false}
use mathlib.Core.Path.{◌∙◌, sym}
use Rattle.properties.proofs.enter_name.Goals as goal

pub mark-requires-clause-registered : goal.mark-requires-clause-registered
mark-requires-clause-registered c =
    c.requires.registered

pub mark-requires-clause-name_at : goal.mark-requires-clause-name_at
mark-requires-clause-name_at c =
    c.requires.name_at

pub mark-requires-clause-sizes_in_bounds : goal.mark-requires-clause-sizes_in_bounds
mark-requires-clause-sizes_in_bounds c =
    c.requires.sizes_in_bounds_2

pub returns-then-mark-clause-entered_after : goal.returns-then-mark-clause-entered_after
returns-then-mark-clause-entered_after c =
    sym (pick_true _ _ (sym c.mark.ensures.value ∙ c.if-mark.true))

pub returns-then-mark-clause-done_after : goal.returns-then-mark-clause-done_after
returns-then-mark-clause-done_after c =
    c.mark.ensures.marks_after

pub enter_declared-requires-clause-registered : goal.enter_declared-requires-clause-registered
enter_declared-requires-clause-registered c =
    c.requires.registered

pub enter_declared-requires-clause-owning : goal.enter_declared-requires-clause-owning
enter_declared-requires-clause-owning c =
    c.requires.owning

pub enter_declared-requires-clause-name_at : goal.enter_declared-requires-clause-name_at
enter_declared-requires-clause-name_at c =
    c.requires.name_at

pub enter_declared-requires-clause-sizes_in_bounds : goal.enter_declared-requires-clause-sizes_in_bounds
enter_declared-requires-clause-sizes_in_bounds c =
    c.requires.sizes_in_bounds

pub returns-clause-entered_after : goal.returns-clause-entered_after
returns-clause-entered_after c =
    c.enter_declared.ensures ∙ sym (pick-false _ _ (sym c.mark.ensures.value ∙ c.if-mark.false))

pub returns-clause-done_after : goal.returns-clause-done_after
returns-clause-done_after c =
    c.mark.ensures.marks_after
