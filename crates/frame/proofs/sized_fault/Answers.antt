use mathlib.Core.Bool.{not}
use mathlib.Core.Path.{ap}
use borrow.Author.Rules.{rules}
use Rattle.frame.proofs.Answers.{answer-2, answer-3, or-fault, sized}
use Rattle.frame.proofs.sized_fault.Goals as goal

pub returns-then-not-in_range : goal.returns-then-not-in_range
returns-then-not-in_range c =
    search (rules, answer-2)

pub returns-then-s-sized_length : goal.returns-then-s-sized_length
returns-then-s-sized_length c =
    search (rules, answer-3)

pub end_fault-requires : goal.end_fault-requires
end_fault-requires c =
    search (rules, sized)

pub returns : goal.returns
returns c =
    let z = sized _ _ _ _ c.in_range.ensures (ap not c.if-not-in_range.false) c.sized_length.ensures c.if-s-sized_length.false in
    or-fault _ _ z _ _ c.end_fault.ensures (λ p. search rules) c.or_else.ensures
