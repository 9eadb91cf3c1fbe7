use Prim.Native.Nat.{◌+◌, ◌≤◌, max}
use mathlib.Core.Path.{◌≡◌}
use lib.ListN.{length, drop}
use Rattle.cells.specs.Raw.{first_cell, cell_end}
use Rattle.cells.proofs.cell_end.Given as goal

abbrev pub invariant-loop-i : goal.invariant-loop-i
invariant-loop-i l =
    (l.i + length (first_cell (drop l.i l.row) l.quotes) ≡ cell_end l.row l.at) × (l.i ≤ max l.at (length l.row))
