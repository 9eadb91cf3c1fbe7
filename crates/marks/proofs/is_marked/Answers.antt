use Rattle.marks.proofs.Laws.{mark-read}
use Rattle.marks.proofs.is_marked.Goals as goal

pub returns : goal.returns
returns c =
    mark-read c.args.marks.now _ _ c.number_in-at.ensures.0
