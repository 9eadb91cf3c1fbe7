use Rattle.written.proofs.Begun.{end-put}
use Rattle.written.proofs.put_end.Goals as goal

pub returns : goal.returns
returns c =
    end-put _ _ _ _ _ c.requires.k_lt_names
    c.put_u32.ensures
