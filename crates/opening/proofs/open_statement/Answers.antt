use Rattle.opening.proofs.Readings.{statement-as}
use Rattle.opening.proofs.open_statement.Goals as goal

pub returns : goal.returns
returns c =
    statement-as _ c.read_as.ensures
