use Rattle.written.proofs.Begun.{sizes-put}
use Rattle.written.proofs.put_sizes.Goals as goal

pub returns : goal.returns
returns c =
    sizes-put _ _ _ _ _
    c.requires
    c.put_u32.ensures
    c.put_u32-2.ensures c.put_u32-3.ensures
