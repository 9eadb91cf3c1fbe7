use mathlib.Core.Path.{◌∙◌}
use native.Mathlib.Omega.{arith}
use Rattle.rows.proofs.Finding.{among_others, none_passed, one-passed, passed-all, passed_to}
use borrow.Author.Rules.{rules}
use Rattle.rows.proofs.find_row.Goals as goal

pub loop-j-init : goal.loop-j-init
loop-j-init c =
    search (rules, none_passed)

pub returns-in_default : goal.returns-in_default
returns-in_default c =
    passed-all _ _ _ _ c.loop-j.invariant _ c.next_row.ensures (among_others _ c.in_default.not-Whole)

pub loop-j-preserved : goal.loop-j-preserved
loop-j-preserved c =
    one-passed _ _ _ _ c.loop-j.invariant _ c.next_row.ensures _ c.in-Whole.is
    (omega (arith, c.loop-j-test.true))

pub returns : goal.returns
returns c =
    c.row_at.ensures ∙ passed_to _ _ _ _ c.loop-j.invariant (omega (arith, c.loop-j-test.false))
