use Prim.Native.Nat.{◌-◌, ◌≤◌}
use mathlib.Core.Path.{◌≡◌}
use Rattle.frame.specs.Sheet.{start_of, end_fault}
use Rattle.frame.proofs.end_fault.Given as goal

abbrev pub invariant-loop-k : goal.invariant-loop-k
invariant-loop-k l = (l.k ≤ l.names) × (l.last ≡ start_of l.s l.f l.k)
    × (end_fault l.s l.f l.k (l.names - l.k) ≡ end_fault l.s l.f 0 l.f.names)
