use native.Mathlib.Omega.{arith}
use Rattle.schema.proofs.Named.{rel-type-named}
use Rattle.endpoints.proofs.Fitting.{unknown-type, type-there, known-type}
use Rattle.endpoints.proofs.fit_endpoints.Goals as goal

pub find_named-requires-clause-declared : goal.find_named-requires-clause-declared
find_named-requires-clause-declared c =
    c.requires

pub find_named-requires-clause-to_le_tokens : goal.find_named-requires-clause-to_le_tokens
find_named-requires-clause-to_le_tokens c =
    omega arith

pub find_named-requires-clause-named : goal.find_named-requires-clause-named
find_named-requires-clause-named c =
    rel-type-named

pub returns-in_default : goal.returns-in_default
returns-in_default c =
    unknown-type _ _ c.requires _ _
    c.find_named.ensures _ c.in_default.is

pub fit_pairs-requires-clause-declared : goal.fit_pairs-requires-clause-declared
fit_pairs-requires-clause-declared c =
    c.requires

pub fit_pairs-requires-clause-i_lt_tokens : goal.fit_pairs-requires-clause-i_lt_tokens
fit_pairs-requires-clause-i_lt_tokens c =
    (type-there _ _ c.requires _ _ c.find_named.ensures _ c.in-Some.is).0

pub fit_pairs-requires-clause-i_value : goal.fit_pairs-requires-clause-i_value
fit_pairs-requires-clause-i_value c =
    (type-there _ _ c.requires _ _ c.find_named.ensures _ c.in-Some.is).1

pub returns : goal.returns
returns c =
    known-type _ _ c.requires _
    _ c.find_named.ensures _
    c.in-Some.is _ c.fit_pairs.ensures
