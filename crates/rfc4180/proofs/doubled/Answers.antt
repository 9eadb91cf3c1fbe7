use Rattle.rfc4180.specs.Grammar.{DQUOTE}
use native.Mathlib.Omega.{arith}
use Rattle.rfc4180.proofs.Scans.{starts-below}
use Rattle.rfc4180.proofs.Ends.{inner-two, inner-closes}
use borrow.Author.Rules.{rules}
use Rattle.rfc4180.proofs.doubled.Goals as goal

pub overflow_add-at : goal.overflow_add-at
overflow_add-at c =
    omega (arith, starts-below c.args.text.now c.args.at DQUOTE c.requires)

pub returns-then-has : goal.returns-then-has
returns-then-has c =
    search (rules, inner-two)

pub returns-else-has : goal.returns-else-has
returns-else-has c =
    search (rules, inner-closes)
