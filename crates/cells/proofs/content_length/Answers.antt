use borrow.Author.Rules.{rules}
use Rattle.cells.proofs.FirstBytes.{content-none, content-quoted, content-plain}
use Rattle.cells.proofs.content_length.Goals as goal

pub returns-in-34 : goal.returns-in-34
returns-in-34 c =
    search (rules, content-quoted)

pub returns-in_default : goal.returns-in_default
returns-in_default c =
    search (rules, content-none)

pub returns-in_default-2 : goal.returns-in_default-2
returns-in_default-2 c =
    search (rules, content-plain)
