use Rattle.properties.proofs.Clearing.{clear}
use Rattle.judge.proofs.OfItems.{element-is}
use Rattle.judge.proofs.Wrote.{wrote-length}
use Rattle.judge.proofs.keys.entered_items.Goals as goal

pub enter_names-requires-clause-element : goal.enter_names-requires-clause-element
enter_names-requires-clause-element g c =
    element-is _ _ _ _ c.requires.lent c.requires.i_lt_tokens c.requires.i_value

pub enter_names-requires-clause-clear : goal.enter_names-requires-clause-clear
enter_names-requires-clause-clear g c =
    clear _ g.row.N c.requires.names_in_bounds

pub shape_of-list : goal.shape_of-list
shape_of-list g c =
    wrote-length c.map_items.ensures
