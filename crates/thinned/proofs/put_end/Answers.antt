use Rattle.thinned.proofs.Putting.{end-put}
use Rattle.thinned.proofs.put_end.Goals as goal

pub returns : goal.returns
returns c =
    end-put _ _ _ _ _ _ c.put_byte.ensures c.put_byte-2.ensures
