use Rattle.row_writer.proofs.Left.{cells_left}
use Rattle.row_writer.specs.Writing.{max_number, name_fault_of}
use Rattle.cells.specs.Raw.{raw_cells}
use lib.ListN.{length}
use mathlib.Core.List.{◌∷◌}
use mathlib.Core.Path.{◌≡◌}
use Prim.Native.Nat.{◌+◌, ◌-◌, ◌≤◌}
use Rattle.row_writer.proofs.names.name_fault.Given as goal

abbrev pub invariant-loop-at : goal.invariant-loop-at
invariant-loop-at l = (l.at ≤ length l.header + 1) × (name_fault_of l.k (cells_left l.header l.at) ≡ name_fault_of 0 (l.label ∷ raw_cells l.header))
    × (l.k ≤ max_number)

abbrev pub decreases-loop-at : goal.decreases-loop-at
decreases-loop-at l = length l.header + 1 - l.at
