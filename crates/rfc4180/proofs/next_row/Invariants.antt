use Prim.Native.Nat.{◌-◌, ◌≤◌}
use lib.ListN.{length}
use Rattle.rfc4180.proofs.Ends.{Rowing}
use Rattle.rfc4180.proofs.next_row.Given as goal

abbrev pub invariant-cells : goal.invariant-cells
invariant-cells l = Rowing l.text l.at l.from l.cells × (1 ≤ l.cells)

abbrev pub decreases-cells : goal.decreases-cells
decreases-cells l = length l.text - l.from
