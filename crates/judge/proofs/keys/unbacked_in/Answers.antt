use mathlib.Core.Path.{refl, ◌∙◌}
use Rattle.provider.proofs.Tuples.{keyed}
use Rattle.properties.proofs.Clearing.{clear}
use Rattle.judge.proofs.OfItems.{element-is}
use Rattle.judge.proofs.Merging.{unbacked-by, not-unbacked}
use Rattle.judge.proofs.Tupled.{keys-marked, keys-of}
use Rattle.judge.proofs.keys.unbacked_in.Goals as goal

pub names_backing-requires-clause-element : goal.names_backing-requires-clause-element
names_backing-requires-clause-element g c =
    element-is _ _ _ _ c.requires.lent c.requires.i_lt_tokens c.requires.i_value

pub names_backing-requires-clause-keyed : goal.names_backing-requires-clause-keyed
names_backing-requires-clause-keyed g c =
    keyed _ _ _ _ _ _ c.requires.lent.register (keys-marked _ _ _ _ _ _ _ c.requires.lent.register (clear _ g.row.N c.requires.names_in_bounds) c.mark_keys.ensures)

pub names_backing-requires-clause-clear : goal.names_backing-requires-clause-clear
names_backing-requires-clause-clear g c =
    clear _ g.row.N c.requires.names_in_bounds

pub returns-in-Unbacked : goal.returns-in-Unbacked
returns-in-Unbacked g c =
    unbacked-by _ _ _ _ _ (keys-of _ _ _ c.requires.map_of.is) c.names_backing.ensures c.in-Unbacked.is

pub returns-in_default : goal.returns-in_default
returns-in_default g c =
    not-unbacked _ c.in_default.not-Unbacked ∙ unbacked-by _ _ _ _ _ (keys-of _ _ _ c.requires.map_of.is) c.names_backing.ensures refl
