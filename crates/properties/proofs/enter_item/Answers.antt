use mathlib.Core.Path.{◌∙◌, sym}
use Rattle.properties.proofs.Turns.{item-other, item-one}
use Rattle.properties.proofs.enter_item.Goals as goal

pub returns-then-kind-ne-PROPERTY : goal.returns-then-kind-ne-PROPERTY
returns-then-kind-ne-PROPERTY c =
    item-other _ _ _ c.args.entered.now _ c.kind.ensures c.if-kind-ne-PROPERTY.true

pub enter_property-requires-clause-registered : goal.enter_property-requires-clause-registered
enter_property-requires-clause-registered c =
    c.requires.registered

pub enter_property-requires-clause-j_lt_tokens : goal.enter_property-requires-clause-j_lt_tokens
enter_property-requires-clause-j_lt_tokens c =
    c.requires.j_lt_tokens

pub enter_property-requires-clause-j_value : goal.enter_property-requires-clause-j_value
enter_property-requires-clause-j_value c =
    sym c.kind.ensures ∙ c.if-kind-ne-PROPERTY.false

pub enter_property-requires-clause-sizes_in_bounds : goal.enter_property-requires-clause-sizes_in_bounds
enter_property-requires-clause-sizes_in_bounds c =
    c.requires.sizes_in_bounds

pub returns : goal.returns
returns c =
    item-one _ _ _ c.args.entered.now _ c.kind.ensures _ c.if-kind-ne-PROPERTY.false c.enter_property.ensures
