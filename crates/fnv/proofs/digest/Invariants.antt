use Rattle.std.proofs.Common.{◌≡◌, ◌*◌, ◌%◌, ◌≤◌, length, take}
use Rattle.lists.specs.Lists.{table}
use Rattle.fnv.specs.Fnv.{rotated}
use Rattle.fnv.proofs.digest.Given as goal

abbrev pub invariant-loop-i : goal.invariant-loop-i
invariant-loop-i l =
    (take l.i l.byte-items ≡ table (λ k. rotated l.hash (7 * k % 64) % 256) 0 l.i) × (length l.byte-items ≡ 32) × (l.i ≤ 32)
