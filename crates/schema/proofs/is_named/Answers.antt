use mathlib.Core.Path.{sym, ◌∙◌}
use borrow.Author.Tests.{ne_eqb}
use Rattle.schema.proofs.Named.{named-below, not-kind, of-kind, read-text}
use Rattle.schema.proofs.is_named.Goals as goal

pub returns-else-kind : goal.returns-else-kind
returns-else-kind c =
    ne_eqb _ _ c.if-kind.false ∙ not-kind _ _ _ _ _ c.kind.ensures c.if-kind.false

pub text_of-requires-clause-sound : goal.text_of-requires-clause-sound
text_of-requires-clause-sound c =
    c.requires.declared.sheet

pub text_of-requires-clause-name_at : goal.text_of-requires-clause-name_at
text_of-requires-clause-name_at c =
    named-below _ _ _ _ c.requires.declared c.requires.j_lt_tokens (sym c.kind.ensures ∙ c.if-kind.true) c.requires.named

pub returns-then-kind : goal.returns-then-kind
returns-then-kind c =
    of-kind _ _ _ _ _ c.kind.ensures c.if-kind.true
    (read-text _ _ _ c.text_of.ensures c.same_text.ensures)
