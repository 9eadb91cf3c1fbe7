use mathlib.Core.Path.{◌∙◌}
use Rattle.utf8.proofs.Turns.{step-first, step-within, step-below, step-above}
use Rattle.utf8.proofs.step.Goals.{else-st-b-via-then-st-b+else-b-st, else-st-b-via-else-st-b}
use Rattle.utf8.proofs.step.Goals as goal

pub returns-then-st-eq0 : goal.returns-then-st-eq0
returns-then-st-eq0 c =
    c.lead.ensures ∙ step-first c.args.st c.args.b c.if-st-eq0.true

pub returns-then-b-st : goal.returns-then-b-st
returns-then-b-st c =
    c.awaits.ensures ∙ step-within c.args.st c.args.b c.if-st-eq0.false c.if-st-b.true c.if-b-st.true

pub returns-else-st-b : goal.returns-else-st-b
returns-else-st-b c =
    c.awaits-else-st-b.ensures ∙
    (elim c.else-st-b.branch [
      | else-st-b-via-then-st-b+else-b-st w ↦ step-above c.args.st c.args.b c.if-st-eq0.false w.if-st-b.true w.if-b-st.false
      | else-st-b-via-else-st-b w ↦ step-below c.args.st c.args.b c.if-st-eq0.false w.if-st-b.false
    ])
