use native.Mathlib.Omega.{arith}
use Rattle.numbers.proofs.Hashes.{mix-is}
use Rattle.numbers.proofs.mixed.Goals as goal

pub returns : goal.returns
returns c =
    (mix-is _ _ _ _ _ c.wide.ensures.0 c.wide-2.ensures.0, omega arith)
