use mathlib.Core.Path.{◌≡◌}
use Prim.Native.Nat.{◌≤◌}
use lib.ListN.{length}
use Rattle.register.specs.Inner.{Seeking}
use Rattle.register.proofs.folding.list_sought.Given as goal

abbrev pub invariant-loop-j : goal.invariant-loop-j
invariant-loop-j l = Seeking l.s l.d l.sizes l.marks l.j l.many l.list × (l.j ≤ l.sizes.schema.tokens) × (length l.list ≡ length l.initial.list)
