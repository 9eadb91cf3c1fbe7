-- A list of 0 is clear.
use Prim.Native.Nat.{ℕ, ◌≤◌}
use native.Mathlib.Omega.{arith}
use lib.ListN.{replicate, length-replicate}
use Rattle.register.proofs.Clear.{zeros}
use Rattle.properties.specs.Entering.{Clear}

pub clear : (n m : ℕ) → n ≤ m → Clear n (replicate m 0)
clear n m h = record { room = omega (arith, length-replicate {A = ℕ} m 0); each = zeros m }
