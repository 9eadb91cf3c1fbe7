use Rattle.schema_aware.proofs.Checks.{too_short, all-written}
use mathlib.Core.Bool.{not}
use mathlib.Core.Path.{ap}
use Rattle.schema_aware.proofs.check_lent.Goals as goal

pub returns-then-not-fits : goal.returns-then-not-fits
returns-then-not-fits c =
    too_short _ _ c.fits.ensures (ap not c.if-not-fits.true) c.refused.ensures

pub returns : goal.returns
returns c =
    all-written _ _ c.fits.ensures
    (ap not c.if-not-fits.false) c.check_clauses.ensures
