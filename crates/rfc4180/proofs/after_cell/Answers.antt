use Rattle.rfc4180.specs.Grammar.{CR}
use mathlib.Core.Path.{sym, ◌∙◌}
use native.Mathlib.Omega.{arith}
use Rattle.rfc4180.proofs.Scans.{starts-below}
use Rattle.rfc4180.proofs.Ends.{cell-cr, cell-breaks, cell-last}
use borrow.Author.Rules.{rules}
use Rattle.rfc4180.proofs.after_cell.Goals as goal

pub overflow_add-at : goal.overflow_add-at
overflow_add-at c =
    omega (
      arith,
      starts-below c.args.text.now c.args.at CR
          (sym c.has.ensures ∙ c.if-has.true),
    )

pub returns-then-has : goal.returns-then-has
returns-then-has c =
    search (rules, cell-cr)

pub returns-then-at-text : goal.returns-then-at-text
returns-then-at-text c =
    search (rules, cell-breaks)

pub returns : goal.returns
returns c =
    search (rules, cell-last)
