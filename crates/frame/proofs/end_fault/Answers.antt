use borrow.Author.Rules.{rules}
use native.Mathlib.Omega.{arith}
use mathlib.Core.Path.{refl, ap}
use Rattle.frame.specs.Sheet.{start_of, end_fault}
use Rattle.frame.proofs.Turns.{start-next, end-bad, end-turn, end_short, end_none}
use Rattle.frame.proofs.end_fault.Goals as goal

pub is_thin-thin-requires : goal.is_thin-thin-requires
is_thin-thin-requires c =
    omega (arith, c.requires.size)

pub loop-k-init : goal.loop-k-init
unfolding start_of
loop-k-init c =
    (search rules, refl, ap (end_fault _ _ 0) (omega arith))

pub returns-then-end-last : goal.returns-then-end-last
returns-then-end-last c =
    end-bad _ _ _ _ _ _ c.end_of-end.ensures c.loop-k.invariant.1 c.loop-k.invariant.2 c.loop-k-test.true
    c.then-end-last.either

pub loop-k-preserved : goal.loop-k-preserved
loop-k-preserved c = (
  search rules,
  start-next _ _ _ _ c.end_of-end.ensures,
  end-turn _ _ _ _ _ _
      c.end_of-end.ensures c.loop-k.invariant.1 c.loop-k.invariant.2 c.loop-k-test.true c.if-end-last.false
      c.if-text-end.false,
)

pub returns-then-last-text : goal.returns-then-last-text
returns-then-last-text c =
    search (rules, end_short)

pub returns : goal.returns
returns c =
    search (rules, end_none)
