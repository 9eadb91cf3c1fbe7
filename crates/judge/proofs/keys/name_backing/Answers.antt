use mathlib.Core.Path.{◌∙◌, sym}
use Rattle.lists.proofs.Tests.{pick_true, pick-false}
use Rattle.judge.proofs.keys.name_backing.Goals as goal

pub returns-then-mark-clause-value : goal.returns-then-mark-clause-value
returns-then-mark-clause-value c =
    sym (pick_true _ _ (sym c.mark.ensures.value ∙ c.if-mark.true))

pub returns-clause-value : goal.returns-clause-value
returns-clause-value c =
    c.backing_of.ensures ∙ sym (pick-false _ _ (sym c.mark.ensures.value ∙ c.if-mark.false))
