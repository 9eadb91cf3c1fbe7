use Rattle.text.specs.Text.{bytes}
use Rattle.phrase.proofs.Laws.{put_as}
use Rattle.phrase.proofs.Rows.{named_list}
use Rattle.phrase.proofs.type_names.put_among.Goals as goal

pub returns-then-y-ne0 : goal.returns-then-y-ne0
unfolding bytes
returns-then-y-ne0 c =
    put_as (named_list _ _ c.if-y-ne0.true) c.put.ensures
