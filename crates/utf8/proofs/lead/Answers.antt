use mathlib.Core.Path.{◌∙◌, sym}
use Rattle.utf8.proofs.lead.Goals.{in_default-via-then-b-lt194, in_default-via-else-b-lt194+else-b-lt224+else-b-lt237+else-b-lt240+else-b-lt244}
use native.Mathlib.Omega.{arith}
use Rattle.utf8.proofs.Rows.{row-1, row-2, row-3a, row-3b, row-3c, row-3d, row-4a, row-4b, row-4c, row_low, row-high}
use Rattle.utf8.proofs.lead.Goals as goal

pub returns-in-224 : goal.returns-in-224
returns-in-224 c =
    c.awaits.ensures ∙ sym (row-3a _ (omega arith))

pub returns-in-237 : goal.returns-in-237
returns-in-237 c =
    c.awaits-in-237.ensures ∙ sym (row-3c _ (omega arith))

pub returns-in-240 : goal.returns-in-240
returns-in-240 c =
    c.awaits-in-240.ensures ∙ sym (row-4a _ (omega arith))

pub returns-in-244 : goal.returns-in-244
returns-in-244 c =
    c.awaits-in-244.ensures ∙ sym (row-4c _ (omega arith))

pub returns-in-0-to-127 : goal.returns-in-0-to-127
returns-in-0-to-127 c =
    c.awaits-in-0-to-127.ensures ∙ sym (row-1 _ (omega arith))

pub returns-in-194-to-223 : goal.returns-in-194-to-223
returns-in-194-to-223 c =
    c.awaits-in-194-to-223.ensures ∙ sym (row-2 _ (omega arith))

pub returns-in-225-to-236 : goal.returns-in-225-to-236
returns-in-225-to-236 c =
    c.awaits-in-225-to-236.ensures ∙ sym (row-3b _ (omega arith))

pub returns-in-238-to-239 : goal.returns-in-238-to-239
returns-in-238-to-239 c =
    c.awaits-in-238-to-239.ensures ∙ sym (row-3d _ (omega arith))

pub returns-in-241-to-243 : goal.returns-in-241-to-243
returns-in-241-to-243 c =
    c.awaits-in-241-to-243.ensures ∙ sym (row-4b _ (omega arith))

pub returns-in_default : goal.returns-in_default
returns-in_default c =
    c.awaits-in_default.ensures ∙ sym
    (elim c.in_default.branch [
      | in_default-via-then-b-lt194 w ↦ row_low _ (omega arith) (omega arith)
      | in_default-via-else-b-lt194+else-b-lt224+else-b-lt237+else-b-lt240+else-b-lt244 w ↦ row-high _ (omega arith)
    ])
