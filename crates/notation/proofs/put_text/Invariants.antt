use Rattle.std.proofs.Common.{length}
use Rattle.notation.proofs.put_text.Given as goal

abbrev pub decreases-loop-byte : goal.decreases-loop-byte
decreases-loop-byte l = length l.rest
