use borrow.Author.Rules.{rules}
use Rattle.token_reader.proofs.Steps.{past, there}
use Rattle.token_reader.proofs.step_at.Goals as goal

pub returns-then-f-at : goal.returns-then-f-at
returns-then-f-at c =
    search (rules, past)

pub returns : goal.returns
returns c =
    search (rules, there)
