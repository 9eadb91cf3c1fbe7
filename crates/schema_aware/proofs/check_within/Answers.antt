use Rattle.opening.proofs.Both.{statement-sound, schema-declared}
use Rattle.register.proofs.Clear.{zeros}
use Rattle.schema_aware.proofs.check_within.Goals as goal

pub fill-requires-clause-declared : goal.fill-requires-clause-declared
fill-requires-clause-declared g c =
    schema-declared _ _ _ c.requires.both_read

pub fill-requires-clause-sound : goal.fill-requires-clause-sound
fill-requires-clause-sound g c =
    statement-sound _ _ _ c.requires.both_read

pub fill-requires-clause-by_index : goal.fill-requires-clause-by_index
fill-requires-clause-by_index g c =
    zeros g.row.N
