use mathlib.Core.Path.{sym, ◌∙◌}
use borrow.Author.Tests.{ne_eqb}
use Rattle.schema.proofs.Named.{not-kind, of-kind}
use Rattle.opening.proofs.is_again_of.Goals as goal

pub kind-requires-clause-sound : goal.kind-requires-clause-sound
kind-requires-clause-sound c =
    c.requires.registered.schema.sheet

pub kind-requires-clause-i_lt_tokens : goal.kind-requires-clause-i_lt_tokens
kind-requires-clause-i_lt_tokens c =
    c.requires.j_lt_tokens

pub returns-else-kind : goal.returns-else-kind
returns-else-kind c =
    ne_eqb _ _ c.if-kind.false ∙ not-kind _ _ _ _ _ c.kind.ensures c.if-kind.false

pub is_again-requires-clause-registered : goal.is_again-requires-clause-registered
is_again-requires-clause-registered c =
    c.requires.registered

pub is_again-requires-clause-exact : goal.is_again-requires-clause-exact
is_again-requires-clause-exact c =
    c.requires.exact

pub is_again-requires-clause-j_lt_tokens : goal.is_again-requires-clause-j_lt_tokens
is_again-requires-clause-j_lt_tokens c =
    c.requires.j_lt_tokens

pub is_again-requires-clause-j_value : goal.is_again-requires-clause-j_value
is_again-requires-clause-j_value c =
    sym c.kind.ensures ∙ c.if-kind.true

pub returns-then-kind : goal.returns-then-kind
returns-then-kind c =
    of-kind _ _ _ _ _ c.kind.ensures c.if-kind.true c.is_again.ensures
