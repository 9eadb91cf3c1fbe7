use borrow.Author.Rules.{rules}
use mathlib.Core.Path.{ap}
use Prim.Native.Nat.{ℕ, ◌%◌}
use Rattle.frame.specs.Sheet.{top_bit}
use Rattle.frame.proofs.Answers.{answer-1, answer-fault, answer-framed}
use Rattle.frame.proofs.read.Goals as goal

pub returns-then-s-lt12 : goal.returns-then-s-lt12
returns-then-s-lt12 c =
    search (rules, answer-1)

pub returns-in-Some : goal.returns-in-Some
returns-in-Some c =
    answer-fault _ _ _ _ _ c.if-s-lt12.false (ap (λ (x : ℕ). x % top_bit) c.u32_at.ensures) c.u32_at-2.ensures c.u32_at-3.ensures c.sized_fault.ensures _ c.in-Some.is

pub returns-in-None : goal.returns-in-None
returns-in-None c =
    answer-framed _ _ _ _ _ c.if-s-lt12.false (ap (λ (x : ℕ). x % top_bit) c.u32_at.ensures) c.u32_at-2.ensures c.u32_at-3.ensures c.sized_fault.ensures c.in-None.is
