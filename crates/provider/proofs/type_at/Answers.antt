use Rattle.provider.proofs.Lookups.{type-made}
use Rattle.provider.proofs.type_at.Goals as goal

pub returns : goal.returns
returns c =
    type-made _ _ _ _ c.requires.type_at c.kind.ensures c.value.ensures
