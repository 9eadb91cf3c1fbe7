use Prim.Native.Nat.{◌-◌}
use lib.ListN.{length}
use Rattle.rfc4180.proofs.Ends.{Quoted}
use Rattle.rfc4180.proofs.quoted_end.Given as goal

abbrev pub invariant-loop-step : goal.invariant-loop-step
invariant-loop-step l = Quoted l.text l.from l.i l.step

abbrev pub decreases-loop-step : goal.decreases-loop-step
decreases-loop-step l = length l.text - l.i
