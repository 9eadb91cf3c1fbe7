use borrow.Author.Rules.{rules}
use native.Mathlib.Nat.{mul-le-mul_right}
use Rattle.frame.proofs.end_at.Goals as goal

pub overflow_mul-result-2 : goal.overflow_mul-result-2
overflow_mul-result-2 c =
    search (rules, mul-le-mul_right c.args.k c.requires)

pub overflow_add-result-2 : goal.overflow_add-result-2
overflow_add-result-2 c =
    search (rules, mul-le-mul_right c.args.k c.requires)
