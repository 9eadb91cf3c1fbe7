use borrow.Author.Rules.{rules}
use Rattle.cells.proofs.FirstBytes.{kind-none, kind-quoted, kind-bool, kind-minus, kind-plain}
use Rattle.cells.proofs.kind.Goals as goal

pub returns-in-empty : goal.returns-in-empty
returns-in-empty c =
    search (rules, kind-none)

pub returns-in-34 : goal.returns-in-34
returns-in-34 c =
    search (rules, kind-quoted)

pub returns-in_default : goal.returns-in_default
returns-in_default c =
    search (rules, kind-bool)

pub returns-in-45 : goal.returns-in-45
returns-in-45 c =
    search (rules, kind-minus)

pub returns-in_default-2 : goal.returns-in_default-2
returns-in_default-2 c =
    search (rules, kind-plain)
