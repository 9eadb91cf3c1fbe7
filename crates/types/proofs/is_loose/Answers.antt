use borrow.Author.Rules.{rules}
use Rattle.types.proofs.Passing.{loose-first, loose-last, not-loose}
use Rattle.types.proofs.is_loose.Goals as goal

pub returns-in_default : goal.returns-in_default
returns-in_default c =
    search (rules, not-loose)

pub returns-in-0 : goal.returns-in-0
returns-in-0 c =
    search (rules, loose-last)

pub returns-in-0-2 : goal.returns-in-0-2
returns-in-0-2 c =
    search (rules, loose-first)
