use native.Mathlib.Omega.{arith}
use borrow.Author.Rules.{rules}
use Rattle.types.proofs.Passing.{wide-in, not_wide}
use Rattle.types.proofs.is_wide.Goals as goal

pub returns-in-6-to-8 : goal.returns-in-6-to-8
returns-in-6-to-8 c =
    search (rules, wide-in)

pub returns-in_default : goal.returns-in_default
returns-in_default c =
    not_wide _ (λ f g. omega arith)

pub returns-in_default-2 : goal.returns-in_default-2
returns-in_default-2 c =
    not_wide _ (λ f g. omega arith)
