use lib.ListN.{length}
use Prim.Native.Nat.{◌+◌, ◌*◌}
use Rattle.row_writer.proofs.sizes_of.Goals as goal

pub returns : goal.returns
returns c =
    λ i. record {
      tokens = 9 + 2 * c.args.cells;
      names = 1 + c.args.cells;
      text = length c.args.label.now + c.text_length.ensures i;
    }
