use Prim.Native.Nat.{◌-◌, ◌≤◌}
use mathlib.Core.Path.{◌≡◌}
use Rattle.frame.specs.Sheet.{name_fault}
use Rattle.frame.proofs.name_fault.Given as goal

abbrev pub invariant-loop-k : goal.invariant-loop-k
invariant-loop-k l = (l.k ≤ l.names) × (name_fault l.s l.f l.k (l.names - l.k) ≡ name_fault l.s l.f 0 l.f.names)
