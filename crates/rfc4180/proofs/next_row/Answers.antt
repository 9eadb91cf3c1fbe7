use borrow.Author.Rules.{rules}
use mathlib.Core.Path.{sym, ◌∙◌}
use native.Mathlib.Omega.{arith}
use Rattle.rfc4180.specs.Grammar.{COMMA}
use Rattle.rfc4180.proofs.Scans.{starts-below}
use Rattle.rfc4180.proofs.Ends.{row-none, row_first, row_more, row_last, row-broken}
use Rattle.rfc4180.proofs.next_row.Goals as goal

pub returns-then-text-at : goal.returns-then-text-at
returns-then-text-at c =
    search (rules, row-none)

pub cells-init : goal.cells-init
cells-init c =
    (row_first _ _ c.if-text-at.false, omega arith)

pub returns-in-Err : goal.returns-in-Err
returns-in-Err c =
    row-broken _ _ _ _ _ c.cells.invariant.0 c.cells.invariant.1 c.in-Err.ensures

pub returns-then-not-has : goal.returns-then-not-has
returns-then-not-has c =
    row_last _ _ _ _ _ c.cells.invariant.0 c.in-Ok.ensures c.cells.invariant.1 c.after_cell.ensures

pub cells-smaller : goal.cells-smaller
cells-smaller c =
    let b = starts-below c.args.text.now c.in-Ok.end COMMA (sym c.has.ensures ∙ c.if-not-has.false) in
    omega (arith, b, c.in-Ok.ensures.onward)

pub cells-preserved : goal.cells-preserved
cells-preserved c = (
  row_more _ _ _ _ _ c.cells.invariant.0 c.in-Ok.ensures (sym c.has.ensures ∙ c.if-not-has.false) c.cells.invariant.1,
  omega arith,
)
