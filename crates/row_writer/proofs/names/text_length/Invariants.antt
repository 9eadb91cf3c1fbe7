use Rattle.row_writer.proofs.Left.{cells_left}
use Rattle.row_writer.specs.Inner.{content_of, contents_in}
use Rattle.written.specs.Written.{text_in}
use lib.ListN.{length}
use mathlib.Core.List.{map}
use mathlib.Core.Path.{◌≡◌}
use Prim.Native.Nat.{◌+◌, ◌-◌, ◌≤◌}
use Rattle.row_writer.proofs.names.text_length.Given as goal

abbrev pub invariant-loop-at : goal.invariant-loop-at
invariant-loop-at l = (l.at ≤ length l.header + 1) × (l.sum ≤ l.at)
    × (l.sum + length (text_in (map content_of (cells_left l.header l.at))) ≡ length (text_in (contents_in l.header)))

abbrev pub decreases-loop-at : goal.decreases-loop-at
decreases-loop-at l = length l.header + 1 - l.at
