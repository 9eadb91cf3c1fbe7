use borrow.Author.Rules.{rules}
use Rattle.frame.proofs.Turns.{start_first, start-after}
use Rattle.frame.proofs.start_of.Goals as goal

pub returns-then-k-eq0 : goal.returns-then-k-eq0
returns-then-k-eq0 c = search (rules, start_first)

pub returns-else-k-eq0 : goal.returns-else-k-eq0
returns-else-k-eq0 c = search (rules, start-after)
