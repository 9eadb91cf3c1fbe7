use native.Mathlib.Omega.{arith}
use Rattle.schema.proofs.Named.{named-below, property-named}
use Rattle.properties.proofs.Turns.{property-kept, property-put}
use Rattle.properties.proofs.enter_property.Goals as goal

pub number_in-at-requires-clause-registered : goal.number_in-at-requires-clause-registered
number_in-at-requires-clause-registered c =
    c.requires.registered

pub number_in-at-requires-clause-name_at : goal.number_in-at-requires-clause-name_at
number_in-at-requires-clause-name_at c =
    named-below _ _ _ _ c.requires.registered.schema c.requires.j_lt_tokens c.requires.j_value property-named

pub bounds-entered-at : goal.bounds-entered-at
bounds-entered-at c =
    omega (arith, c.number_in-at.ensures.1, c.requires.sizes_in_bounds)

pub returns-then-entered-at-ne0 : goal.returns-then-entered-at-ne0
returns-then-entered-at-ne0 c =
    property-kept _ _ _ c.args.entered.now _ c.number_in-at.ensures.0 c.if-entered-at-ne0.true

pub bounds-entered-at-2 : goal.bounds-entered-at-2
bounds-entered-at-2 c =
    omega (arith, c.number_in-at.ensures.1, c.requires.sizes_in_bounds)

pub returns : goal.returns
returns c =
    property-put _ _ _ c.args.entered.now _ c.number_in-at.ensures.0 c.if-entered-at-ne0.false
