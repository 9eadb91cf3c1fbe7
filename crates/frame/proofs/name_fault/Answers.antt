use borrow.Author.Rules.{rules}
use native.Mathlib.Omega.{arith}
use mathlib.Core.Path.{ap}
use Rattle.frame.specs.Sheet.{name_fault}
use Rattle.frame.proofs.Turns.{name-bad, name-turn, name-none}
use Rattle.frame.proofs.name_fault.Goals as goal

pub loop-k-init : goal.loop-k-init
loop-k-init c =
    (search rules, ap (name_fault _ _ 0) (omega arith))

pub returns-then-not-is_utf8 : goal.returns-then-not-is_utf8
returns-then-not-is_utf8 c =
    name-bad _ _ _ _ _ _ c.named.ensures c.is_utf8.ensures
    c.loop-k.invariant.1
    c.loop-k-test.true c.if-not-is_utf8.true

pub loop-k-preserved : goal.loop-k-preserved
loop-k-preserved c = (
  search rules,
  name-turn _ _ _ _ _ _ c.named.ensures c.is_utf8.ensures
      c.loop-k.invariant.1
      c.loop-k-test.true c.if-not-is_utf8.false,
)

pub returns : goal.returns
returns c =
    search (rules, name-none)
