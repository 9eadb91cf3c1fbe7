use mathlib.Core.Path.{◌≡◌}
use Prim.Native.Nat.{◌≤◌}
use lib.ListN.{length}
use Rattle.numbers.specs.Least.{all_names}
use Rattle.register.specs.Inner.{Folding}
use Rattle.register.proofs.folding.fold_names.Given as goal

abbrev pub invariant-loop-x : goal.invariant-loop-x
invariant-loop-x l = Folding l.s l.d l.sizes l.x l.register × (l.x ≤ all_names l.sizes) × (length l.register ≡ length l.initial.register)
