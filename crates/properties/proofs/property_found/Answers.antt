use native.Mathlib.Omega.{arith}
use mathlib.Core.Path.{refl}
use Rattle.properties.proofs.Found.{key-undeclared, type-there, key-declared, entry-inside}
use Rattle.properties.proofs.property_found.Goals as goal

pub number_of-requires-clause-registered : goal.number_of-requires-clause-registered
number_of-requires-clause-registered c =
    c.requires.element.register

pub number_of-requires-clause-name_at : goal.number_of-requires-clause-name_at
number_of-requires-clause-name_at c =
    c.requires.name_at

pub bounds-entered-number_of : goal.bounds-entered-number_of
bounds-entered-number_of c =
    entry-inside _ _ _ _ _ _ c.requires.element c.requires.name_at c.args.entered.now c.requires.properties_of _ _ c.number_of.ensures.0 refl

pub returns-then-entry-eq0 : goal.returns-then-entry-eq0
returns-then-entry-eq0 c =
    key-undeclared _ _ _ _ _ _ c.requires.element c.requires.name_at c.args.entered.now c.requires.properties_of _ _ c.number_of.ensures.0 refl c.if-entry-eq0.true

pub overflow_add-entry : goal.overflow_add-entry
overflow_add-entry c =
    let y = type-there _ _ _ _ _ _ c.requires.element c.requires.name_at c.args.entered.now c.requires.properties_of _ _ c.number_of.ensures.0 refl c.if-entry-eq0.false in omega (arith, y.inside, c.requires.element.register.schema.sheet)

pub type_at-requires-clause-sound : goal.type_at-requires-clause-sound
type_at-requires-clause-sound c =
    c.requires.element.register.schema.sheet

pub type_at-requires-clause-type_at : goal.type_at-requires-clause-type_at
type_at-requires-clause-type_at c =
    type-there _ _ _ _ _ _ c.requires.element c.requires.name_at c.args.entered.now c.requires.properties_of _ _ c.number_of.ensures.0 refl c.if-entry-eq0.false

pub returns : goal.returns
returns c =
    key-declared _ _ _ _ _ _ c.requires.element c.requires.name_at c.args.entered.now c.requires.properties_of _ _ c.number_of.ensures.0 refl _ c.if-entry-eq0.false c.type_at.ensures
