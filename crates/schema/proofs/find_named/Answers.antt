use mathlib.Core.Path.{refl}
use native.Mathlib.Omega.{arith}
use Rattle.schema.proofs.Searches.{search-hit, search-on, search-end}
use Rattle.schema.proofs.find_named.Goals as goal

pub loop-j-init : goal.loop-j-init
loop-j-init c =
    refl

pub is_named-requires-clause-declared : goal.is_named-requires-clause-declared
is_named-requires-clause-declared c =
    c.requires.declared

pub is_named-requires-clause-j_lt_tokens : goal.is_named-requires-clause-j_lt_tokens
is_named-requires-clause-j_lt_tokens c =
    omega (arith, c.requires.to_le_tokens)

pub is_named-requires-clause-named : goal.is_named-requires-clause-named
is_named-requires-clause-named c =
    c.requires.named

pub returns-then-is_named : goal.returns-then-is_named
returns-then-is_named c =
    search-hit _ _ _ _ _ _ _ c.is_named.ensures c.loop-j.invariant
    c.loop-j-test.true c.if-is_named.true

pub loop-j-preserved : goal.loop-j-preserved
loop-j-preserved c =
    search-on _ _ _ _ _ _ _ c.is_named.ensures c.loop-j.invariant
    c.loop-j-test.true c.if-is_named.false

pub returns : goal.returns
returns c =
    search-end _ _ _ _ _ _ c.loop-j.invariant c.loop-j-test.false
