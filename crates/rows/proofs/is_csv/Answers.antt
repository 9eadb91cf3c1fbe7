use native.Mathlib.Omega.{arith}
use Rattle.rows.proofs.Finding.{among_others, read_first, read_more, read-broken, read-last, read-less}
use borrow.Author.Rules.{rules}
use Rattle.rows.proofs.is_csv.Goals as goal

pub loop-at-init : goal.loop-at-init
loop-at-init c =
    search (rules, read_first)

pub returns-in_default : goal.returns-in_default
returns-in_default c =
    read-broken _ _ c.loop-at.invariant _ c.next_row.ensures (among_others _ c.in_default.not-Whole)
    (omega (arith, c.loop-at-test.true))

pub loop-at-smaller : goal.loop-at-smaller
loop-at-smaller c =
    read-less _ _ _ _ c.next_row.ensures c.in-Whole.is

pub loop-at-preserved : goal.loop-at-preserved
loop-at-preserved c =
    read_more _ _ c.loop-at.invariant _ c.next_row.ensures _ c.in-Whole.is

pub returns : goal.returns
returns c =
    search (rules, read-last)
