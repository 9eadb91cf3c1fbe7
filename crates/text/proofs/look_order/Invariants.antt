use Prim.Native.Nat.{◌≤◌, ◌-◌}
use mathlib.Core.Path.{◌≡◌}
use mathlib.Core.List.{map}
use Rattle.text.specs.BytePairs.{common_start}
use Rattle.text.specs.Inner.{shorter_of}
use Rattle.text.proofs.look_order.Given as goal

abbrev pub invariant-loop-pairs : goal.invariant-loop-pairs
invariant-loop-pairs g l =
    (l.n ≡ shorter_of l.a l.b) × (l.pairs ≤ common_start (map g.R.Reading.read l.a) (map g.R.Reading.read l.b))

abbrev pub decreases-loop-pairs : goal.decreases-loop-pairs
decreases-loop-pairs g l = l.n - l.pairs
