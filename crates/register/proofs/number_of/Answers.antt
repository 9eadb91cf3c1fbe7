use Rattle.register.proofs.Names.{statement-text, statement-inside, number_at}
use Rattle.register.proofs.number_of.Goals as goal

pub returns : goal.returns
returns c =
    number_at _ _ _ _ c.requires.registered _ (statement-inside _ _ _ _ c.requires.registered _ c.requires.name_at) _ (statement-text _ _ _ _ c.requires.registered _ c.requires.name_at) _ (rw c.value.ensures at c.place-at.ensures)
