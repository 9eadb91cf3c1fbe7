use mathlib.Core.Path.{refl}
use Rattle.breach.specs.Breach.{statement_in, schema_in}
use Rattle.judge.proofs.OfItems.{element-is, element-spans}
use Rattle.judge.proofs.Keyed.{key-undeclared, key-untyped, key_right, key-wrong}
use Rattle.judge.proofs.Wrote.{wrote_none, wrote_as}
use Rattle.judge.proofs.keys.key_item.Goals as goal

pub property_found-requires-clause-element : goal.property_found-requires-clause-element
property_found-requires-clause-element c =
    element-is _ _ _ _ c.requires.lent c.requires.element_lt_tokens c.requires.element_value

pub put_key-requires-clause-element_value : goal.put_key-requires-clause-element_value
put_key-requires-clause-element_value c =
    let q = element-spans _ _ _ _ c.requires.lent c.requires.element_lt_tokens c.requires.element_value in q.0

pub put_key-requires-clause-element_value_2 : goal.put_key-requires-clause-element_value_2
put_key-requires-clause-element_value_2 c =
    let q = element-spans _ _ _ _ c.requires.lent c.requires.element_lt_tokens c.requires.element_value in q.1

pub returns-in_default : goal.returns-in_default
returns-in_default c =
    wrote_as (key-undeclared (statement_in c.args.s.now) (schema_in c.args.d.now) c.args.key.element c.args.key.ordinal c.args.key.at c.requires.at_value c.requires.at_value_2 _ refl c.property_found.ensures c.in_default.is) c.put_key.ensures

pub returns-in_default-infer_literal_type : goal.returns-in_default-infer_literal_type
returns-in_default-infer_literal_type c =
    wrote_as (key-untyped (statement_in c.args.s.now) (schema_in c.args.d.now) c.args.key.element c.args.key.ordinal c.args.key.at c.requires.at_value c.requires.at_value_2 _ refl c.property_found.ensures _ c.in-Some.is c.infer_literal_type.ensures c.in_default-infer_literal_type.is) wrote_none

pub returns-then-types_compatible : goal.returns-then-types_compatible
returns-then-types_compatible c =
    wrote_as (key_right (statement_in c.args.s.now) (schema_in c.args.d.now) c.args.key.element c.args.key.ordinal c.args.key.at c.requires.at_value c.requires.at_value_2 _ refl c.property_found.ensures _ c.in-Some.is c.infer_literal_type.ensures _ c.in-Some-infer_literal_type.is _ c.types_compatible.ensures c.if-types_compatible.true) wrote_none

pub put_key-requires-2-clause-element_value : goal.put_key-requires-2-clause-element_value
put_key-requires-2-clause-element_value c =
    let q = element-spans _ _ _ _ c.requires.lent c.requires.element_lt_tokens c.requires.element_value in q.0

pub put_key-requires-2-clause-element_value_2 : goal.put_key-requires-2-clause-element_value_2
put_key-requires-2-clause-element_value_2 c =
    let q = element-spans _ _ _ _ c.requires.lent c.requires.element_lt_tokens c.requires.element_value in q.1

pub returns : goal.returns
returns c =
    wrote_as (key-wrong (statement_in c.args.s.now) (schema_in c.args.d.now) c.args.key.element c.args.key.ordinal c.args.key.at c.requires.at_value c.requires.at_value_2 _ refl c.property_found.ensures _ c.in-Some.is c.infer_literal_type.ensures _ c.in-Some-infer_literal_type.is _ c.types_compatible.ensures c.if-types_compatible.false) c.put_key-2.ensures
