use mathlib.Core.Path.{sym, ◌∙◌}
use native.Mathlib.Omega.{arith}
use Rattle.rfc4180.specs.Grammar.{DQUOTE}
use Rattle.rfc4180.proofs.Scans.{starts-below}
use Rattle.rfc4180.proofs.Ends.{cell-quoted, cell-plain}
use borrow.Author.Rules.{rules}
use Rattle.rfc4180.proofs.cell_end.Goals as goal

pub overflow_add-from : goal.overflow_add-from
overflow_add-from c =
    omega (
      arith,
      starts-below c.args.text.now c.args.from DQUOTE
          (sym c.has.ensures ∙ c.if-has.true),
    )

pub quoted_end-requires : goal.quoted_end-requires
quoted_end-requires c =
    omega (
      arith,
      starts-below c.args.text.now c.args.from DQUOTE
          (sym c.has.ensures ∙ c.if-has.true),
    )

pub returns-then-has : goal.returns-then-has
returns-then-has c =
    search (rules, cell-quoted)

pub returns : goal.returns
returns c =
    search (rules, cell-plain)
