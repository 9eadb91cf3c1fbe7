use Rattle.schema.proofs.Named.{named-below, other-below, apart-named}
use Rattle.provider.proofs.Tuples.{apart-not, apart-then}
use Rattle.provider.proofs.is_apart.Goals as goal

pub is_marked-requires-clause-name_at : goal.is_marked-requires-clause-name_at
is_marked-requires-clause-name_at c =
    named-below _ _ _ _ c.requires.registered.schema c.requires.j_lt_tokens c.requires.j_value apart-named

pub returns-else-is_marked : goal.returns-else-is_marked
returns-else-is_marked c =
    apart-not _ _ _ _ _ c.is_marked.ensures c.if-is_marked.false

pub is_marked-requires-then-is_marked-clause-name_at : goal.is_marked-requires-then-is_marked-clause-name_at
is_marked-requires-then-is_marked-clause-name_at c =
    other-below _ _ _ c.requires.registered.schema c.requires.j_lt_tokens c.requires.j_value

pub returns-then-is_marked : goal.returns-then-is_marked
returns-then-is_marked c =
    apart-then _ _ _ _ _ c.is_marked.ensures _ c.if-is_marked.true c.is_marked-then-is_marked.ensures
