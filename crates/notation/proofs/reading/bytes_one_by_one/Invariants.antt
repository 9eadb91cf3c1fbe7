use Rattle.std.proofs.Common.{length}
use Rattle.notation.proofs.reading.bytes_one_by_one.Given as goal

abbrev pub decreases-loop-rest : goal.decreases-loop-rest
decreases-loop-rest l = length l.rest
