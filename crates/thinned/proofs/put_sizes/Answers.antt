use Rattle.thinned.proofs.Putting.{sizes-put}
use Rattle.thinned.proofs.put_sizes.Goals as goal

pub returns : goal.returns
returns c =
    sizes-put _ _ _ _ _ c.put_u32.ensures c.put_u32-2.ensures c.put_u32-3.ensures
