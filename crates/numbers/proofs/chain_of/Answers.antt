use mathlib.Core.Path.{refl}
use lib.Bits.{and_le_r}
use Rattle.numbers.proofs.chain_of.Goals as goal

pub returns : goal.returns
returns c =
    (refl, and_le_r c.args.hash c.args.top)
