use mathlib.Core.Path.{◌≡◌}
use Prim.Native.Nat.{◌≤◌}
use lib.ListN.{length}
use Rattle.register.specs.Inner.{Registering}
use Rattle.register.proofs.enter_all.Given as goal

abbrev pub invariant-loop-j : goal.invariant-loop-j
invariant-loop-j l = Registering l.s l.d l.sizes l.j l.j l.many l.register × (l.j ≤ l.sizes.schema.tokens) × (length l.register ≡ length l.initial.register)
