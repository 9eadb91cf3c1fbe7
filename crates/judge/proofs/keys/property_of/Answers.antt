use native.Mathlib.Omega.{arith}
use Rattle.properties.proofs.Clearing.{clear}
use Rattle.judge.proofs.OfItems.{element-is}
use Rattle.judge.proofs.keys.property_of.Goals as goal

pub enter_names-requires-clause-element : goal.enter_names-requires-clause-element
enter_names-requires-clause-element c =
    element-is _ _ _ _ c.requires.lent c.requires.i_lt_tokens c.requires.i_value

pub enter_names-requires-clause-clear : goal.enter_names-requires-clause-clear
enter_names-requires-clause-clear c =
    clear _ 2048 (omega (arith, c.requires.lent.schema.sheet.few_names, c.requires.lent.sheet.few_names))

pub property_found-requires-clause-element : goal.property_found-requires-clause-element
property_found-requires-clause-element c =
    element-is _ _ _ _ c.requires.lent c.requires.i_lt_tokens c.requires.i_value
