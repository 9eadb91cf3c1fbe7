use mathlib.Core.Path.{◌∙◌}
use native.Mathlib.Omega.{arith}
use Rattle.endian.specs.Endian.{u32_of}
use Rattle.endian.proofs.Laws.{stored-in}
use Rattle.endian.proofs.put_u32.Goals as goal

pub returns : goal.returns
returns c =
    stored-in c.args.out.now (u32_of c.args.n) _ c.args.at _ (c.copy_from_slice.ensures.after ∙ c.to_le_bytes.ensures)
    (omega arith) (omega (arith, c.requires))
