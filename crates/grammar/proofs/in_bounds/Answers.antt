use borrow.Author.Rules.{rules}
use Rattle.grammar.proofs.Judged.{name-bound, first-bound, end-bound, free_bound}
use Rattle.grammar.proofs.in_bounds.Goals as goal

pub returns-then-at-eq0 : goal.returns-then-at-eq0
returns-then-at-eq0 c =
    search (rules, first-bound)

pub returns-in-Name : goal.returns-in-Name
returns-in-Name c =
    search (rules, name-bound)

pub returns-else-at-eq0 : goal.returns-else-at-eq0
returns-else-at-eq0 c =
    search (rules, end-bound)

pub returns-in_default : goal.returns-in_default
returns-in_default c =
    free_bound _ _ _ c.in_default.not-Name c.in_default.not-SpanEnd
