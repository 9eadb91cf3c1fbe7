use Rattle.register.proofs.Entries.{owning-exact}
use Rattle.provider.proofs.Items.{owners-searched}
use Rattle.provider.proofs.Lookups.{declared-some}
use Rattle.provider.proofs.has_declared.Goals as goal
use mathlib.Core.Path.{◌∙◌}

pub declared-requires-clause-exact : goal.declared-requires-clause-exact
declared-requires-clause-exact c =
    owning-exact _ c.requires.owning

pub returns : goal.returns
returns c =
    c.is_some.ensures
    ∙ declared-some _ _ _ _ (owners-searched c.requires.registered.schema _ c.requires.owning) c.declared.ensures
