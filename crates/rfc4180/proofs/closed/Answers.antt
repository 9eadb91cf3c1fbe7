use Rattle.rfc4180.specs.Grammar.{DQUOTE}
use mathlib.Core.Path.{sym, ◌∙◌}
use native.Mathlib.Omega.{arith}
use Rattle.rfc4180.proofs.Scans.{starts-below}
use Rattle.rfc4180.proofs.Ends.{closed-whole, closed-broken}
use borrow.Author.Rules.{rules}
use Rattle.rfc4180.proofs.closed.Goals as goal

pub overflow_add-result : goal.overflow_add-result
overflow_add-result c =
    omega (
      arith,
      starts-below c.args.text.now
          c.args.at DQUOTE (sym c.has.ensures ∙ c.if-has.true),
    )

pub returns-then-has : goal.returns-then-has
returns-then-has c =
    search (rules, closed-whole)

pub returns-else-has : goal.returns-else-has
returns-else-has c =
    search (rules, closed-broken)
