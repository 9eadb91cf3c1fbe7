use native.Mathlib.Omega.{arith}
use mathlib.Core.Path.{sym}
use lib.ListN.{length-set}
use Rattle.judge.proofs.Wrote.{wrote-here, put-before, put_full, wrote-stored}
use Rattle.judge.proofs.put_item.Goals as goal

pub returns-then-number-tally : goal.returns-then-number-tally
returns-then-number-tally c =
    wrote-here _ _ _ _ (sym (put-before _ _ _ _ c.if-number-tally.true))

pub returns-then-list-k : goal.returns-then-list-k
returns-then-list-k c =
    wrote-here _ _ _ _ (sym (put_full _ _ _ _ c.if-number-tally.false c.if-list-k.true))

pub bounds-list-at-2 : goal.bounds-list-at-2
bounds-list-at-2 c =
    simp length-set (omega arith)

pub bounds-list-at-3 : goal.bounds-list-at-3
bounds-list-at-3 c =
    simp length-set (omega arith)

pub bounds-list-at-4 : goal.bounds-list-at-4
bounds-list-at-4 c =
    simp length-set (omega arith)

pub bounds-list-at-5 : goal.bounds-list-at-5
bounds-list-at-5 c =
    simp length-set (omega arith)

pub bounds-list-at-6 : goal.bounds-list-at-6
bounds-list-at-6 c =
    simp length-set (omega arith)

pub bounds-list-at-7 : goal.bounds-list-at-7
bounds-list-at-7 c =
    simp length-set (omega arith)

pub shape_of-list : goal.shape_of-list
shape_of-list c =
    simp length-set

pub returns : goal.returns
returns c =
    wrote-stored _ _ _ _ c.if-number-tally.false c.if-list-k.false
