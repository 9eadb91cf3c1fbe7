use mathlib.Core.Path.{sym, ◌∙◌}
use borrow.Author.Tests.{le-ltb}
use Rattle.rfc4180.proofs.Scans.{starts_none, starts-here}
use Rattle.rfc4180.proofs.has.Goals as goal

pub returns-then-at-text : goal.returns-then-at-text
returns-then-at-text c =
    sym (starts-here _ _ _ c.if-at-text.true)

pub returns-else-at-text : goal.returns-else-at-text
returns-else-at-text c =
    le-ltb _ _ c.if-at-text.false ∙ sym (starts_none _ _ _ c.if-at-text.false)
