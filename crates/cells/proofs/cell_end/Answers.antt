use borrow.Author.Rules.{rules}
use mathlib.Core.Path.{refl}
use native.Mathlib.Omega.{arith}
use Rattle.cells.specs.Raw.{cell_end}
use Rattle.cells.proofs.Turns.{cell-turn, cell-stop, cell-last}
use Rattle.cells.proofs.cell_end.Goals as goal

pub loop-i-init : goal.loop-i-init
unfolding cell_end
loop-i-init c =
    (refl, omega arith)

pub returns-then-ends_cell : goal.returns-then-ends_cell
returns-then-ends_cell c =
    search (rules, cell-stop)

pub loop-i-preserved : goal.loop-i-preserved
loop-i-preserved c =
    (search (rules, cell-turn), omega (arith, c.loop-i-test.true))

pub returns : goal.returns
returns c =
    let e = cell-last _ _ _ _ c.loop-i.invariant.0 c.loop-i-test.false in
    omega (arith, c.max.ensures, c.loop-i.auto, c.loop-i-test.false)
