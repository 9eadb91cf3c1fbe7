use Rattle.std.proofs.Common.{◌≢◌, ◌≤◌, ◌<◌, ℕ, slice_index}
use Rattle.print.proofs.find.Given as goal

abbrev pub invariant-loop-i : goal.invariant-loop-i
invariant-loop-i l =
    (l.fn.from ≤ l.i) × (l.i ≤ l.fn.to) × ((k : ℕ) → l.fn.from ≤ k → k < l.i → slice_index l.fn.s k ≢ l.fn.b)
