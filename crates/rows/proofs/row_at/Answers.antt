use Rattle.rows.proofs.Finding.{among_others, row-there, row-absent}
use Rattle.rows.proofs.row_at.Goals as goal

pub returns-in_default : goal.returns-in_default
returns-in_default c =
    row-absent _ _ _ c.next_row.ensures (among_others _ c.in_default.not-Whole)

pub returns : goal.returns
returns c =
    row-there _ _ _ c.next_row.ensures _ c.in-Whole.is
