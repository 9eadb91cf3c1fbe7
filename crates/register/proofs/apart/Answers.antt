use Rattle.register.proofs.Filled.{apart-read}
use Rattle.register.proofs.apart.Goals as goal

pub returns : goal.returns
returns c =
    apart-read _ _ _ c.args.register.now c.requires.registered _ _ c.aparts_at.ensures
