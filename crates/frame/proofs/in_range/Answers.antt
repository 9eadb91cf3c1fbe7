use Rattle.std.proofs.Common.{arith}
use Rattle.std.proofs.lemmas.Bool.Decides.{nat_tests}
use Rattle.frame.specs.Sheet.{in_range}
use Rattle.frame.proofs.in_range.Goals as goal

pub returns-then-f-le-MAX_NAMES : goal.returns-then-f-le-MAX_NAMES
unfolding in_range
returns-then-f-le-MAX_NAMES c = grind (arith, nat_tests)

pub returns-else-f-le-MAX_NAMES : goal.returns-else-f-le-MAX_NAMES
unfolding in_range
returns-else-f-le-MAX_NAMES c = grind (arith, nat_tests)
