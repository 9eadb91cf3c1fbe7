use Rattle.rfc4180.specs.Grammar.{LF}
use mathlib.Core.Path.{sym, ◌∙◌}
use native.Mathlib.Omega.{arith}
use Rattle.rfc4180.proofs.Scans.{starts-below}
use Rattle.rfc4180.proofs.Ends.{cr-lf, cr-alone}
use borrow.Author.Rules.{rules}
use Rattle.rfc4180.proofs.after_cr.Goals as goal

pub overflow_add-result : goal.overflow_add-result
overflow_add-result c =
    omega (
      arith,
      starts-below c.args.text.now
          c.args.at LF (sym c.has.ensures ∙ c.if-has.true),
    )

pub returns-then-has : goal.returns-then-has
returns-then-has c =
    search (rules, cr-lf)

pub returns : goal.returns
returns c =
    search (rules, cr-alone)
