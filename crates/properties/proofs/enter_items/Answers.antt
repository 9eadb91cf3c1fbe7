use native.Mathlib.Omega.{arith}
use mathlib.Core.Path.{refl, ◌∙◌}
use Rattle.properties.proofs.Turns.{items-start, items_more, items-all}
use Rattle.properties.proofs.enter_items.Goals as goal

pub loop-j-init : goal.loop-j-init
loop-j-init c =
    (omega arith, c.requires.from_le_to.0, refl, items-start _ _ _ _)

pub enter_item-requires-clause-registered : goal.enter_item-requires-clause-registered
enter_item-requires-clause-registered c =
    c.requires.registered

pub enter_item-requires-clause-j_lt_tokens : goal.enter_item-requires-clause-j_lt_tokens
enter_item-requires-clause-j_lt_tokens c =
    omega (arith, c.loop-j-test.true, c.requires.from_le_to.1)

pub enter_item-requires-clause-sizes_in_bounds : goal.enter_item-requires-clause-sizes_in_bounds
enter_item-requires-clause-sizes_in_bounds c =
    omega (arith, c.loop-j.invariant.2, c.requires.sizes_in_bounds)

pub loop-j-preserved : goal.loop-j-preserved
loop-j-preserved c =
    (omega (arith, c.loop-j.invariant.0), omega (arith, c.loop-j-test.true), c.enter_item.auto.entered ∙ c.loop-j.invariant.2, items_more _ _ _ _ _ _ _ c.loop-j.invariant.0 c.loop-j.invariant.3 c.enter_item.ensures)

pub shape_of-entered : goal.shape_of-entered
shape_of-entered c =
    c.loop-j.invariant.2

pub returns : goal.returns
returns c =
    items-all _ _ _ _ _ _ _ c.loop-j.invariant.1 c.loop-j-test.false c.loop-j.invariant.3
