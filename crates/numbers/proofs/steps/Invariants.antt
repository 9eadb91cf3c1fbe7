use mathlib.Core.Path.{◌≡◌}
use Prim.Native.Nat.{◌<◌, ◌≤◌}
use Rattle.numbers.specs.Chains.{steps_of, caseless_of}
use Rattle.numbers.proofs.steps.Given as goal

abbrev pub invariant-loop-k : goal.invariant-loop-k
invariant-loop-k l = (l.hash ≡ steps_of (caseless_of l.text) l.k) × (l.hash < 4294967296) × (l.k ≤ l.n)
