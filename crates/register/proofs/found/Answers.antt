use Rattle.register.proofs.Filled.{entered-checked}
use Rattle.register.proofs.found.Goals as goal

pub returns : goal.returns
returns c =
    entered-checked _ _ c.checked_sub.ensures
