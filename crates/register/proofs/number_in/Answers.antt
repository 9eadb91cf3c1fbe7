use Rattle.register.proofs.Names.{schema-text, schema-inside, number_at}
use Rattle.register.proofs.number_in.Goals as goal

pub returns : goal.returns
returns c =
    number_at _ _ _ _ c.requires.registered _ (schema-inside _ _ _ _ c.requires.registered _ c.requires.name_at) _ (schema-text _ _ _ _ c.requires.registered _ c.requires.name_at) _ (rw c.value.ensures at c.place-at.ensures)
