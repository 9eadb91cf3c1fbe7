use Rattle.thinned.proofs.Putting.{layout-length}
use Rattle.thinned.proofs.length_of.Goals as goal

pub returns : goal.returns
returns c =
    layout-length _ _ _ c.layout_of.ensures c.length_of.ensures
