use borrow.Author.Rules.{rules}
use Rattle.token_reader.proofs.Steps.{at-end, one_further}
use Rattle.token_reader.proofs.after.Goals as goal

pub returns-else-at-tokens : goal.returns-else-at-tokens
returns-else-at-tokens c =
    search (rules, at-end)

pub returns-then-at-tokens : goal.returns-then-at-tokens
returns-then-at-tokens c =
    search (rules, one_further)
