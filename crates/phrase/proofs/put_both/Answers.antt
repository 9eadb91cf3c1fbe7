use Rattle.phrase.proofs.Laws.{put-join}
use Rattle.phrase.proofs.put_both.Goals as goal

pub returns : goal.returns
returns c =
    put-join c.put-end.ensures c.put.ensures
