use Rattle.schema_aware.proofs.Checks.{all_fit, counted}
use Rattle.schema_aware.proofs.fits.Goals as goal

pub returns-then-sizes-room : goal.returns-then-sizes-room
returns-then-sizes-room c =
    all_fit _ _ _ c.requires c.if-sizes-room.true

pub returns : goal.returns
returns c =
    counted _ _ _ c.requires _
    c.check_clauses-counted.ensures
