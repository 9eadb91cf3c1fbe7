-- The names of a document: where they end, and the text that they make.
use mathlib.Core.Path.{◌≡◌, refl}
use mathlib.Core.List.{List, [], ◌∷◌, ◌++◌}
use Prim.Native.Nat.{ℕ, zero, suc, ◌+◌, ◌≤◌, ◌<◌}
use native.Mathlib.Omega.{arith}
use lib.ListN.{length, get_or, take, drop, length-append}
use lib.Seq.{drop-append-add, take-append_seam}
use Rattle.lists.specs.Lists.{each}
use Rattle.written.specs.Written.{text_in, ends_from}

-- the bytes of the first k names
abbrev pub reach : List (List ℕ) → ℕ → ℕ
reach ns k = length (text_in (take k ns))

pub ends-at : (ns : List (List ℕ)) (at k : ℕ) → k < length ns → get_or (ends_from at ns) k 0 ≡ at + reach ns (suc k)
unfolding ends_from each
ends-at [] at k h = absurd (omega arith)
ends-at (n ∷ ns) at zero h = omega (arith, length-append n [])
ends-at (n ∷ ns) at (suc k) h =
    omega (arith, ends-at ns (at + length n) k (omega arith), length-append n (text_in (take (suc k) ns)))

pub reach-more : (ns : List (List ℕ)) (k : ℕ) → k < length ns → reach ns (suc k) ≡ reach ns k + length (get_or ns k [])
unfolding each
reach-more [] k h = absurd (omega arith)
reach-more (n ∷ ns) zero h = omega (arith, length-append n [])
reach-more (n ∷ ns) (suc k) h =
    omega (
      arith,
      reach-more ns k (omega arith),
      length-append n (text_in (take (suc k) ns)),
      length-append n (text_in (take k ns)),
    )

pub reach-most : (ns : List (List ℕ)) (k : ℕ) → reach ns k ≤ length (text_in ns)
unfolding each
reach-most [] zero = omega arith
reach-most [] (suc k) = omega arith
reach-most (n ∷ ns) zero = omega arith
reach-most (n ∷ ns) (suc k) =
    omega (arith, reach-most ns k, length-append n (text_in (take k ns)), length-append n (text_in ns))

pub reach-all : (ns : List (List ℕ)) → reach ns (length ns) ≡ length (text_in ns)
unfolding each
reach-all [] = refl
reach-all (n ∷ ns) = omega
    (arith, reach-all ns, length-append n (text_in (take (length ns) ns)), length-append n (text_in ns))

-- name k is what stands there
pub name_in : (ns : List (List ℕ)) (k : ℕ) → k < length ns
    → take (length (get_or ns k [])) (drop (reach ns k) (text_in ns)) ≡ get_or ns k []
unfolding each
name_in [] k h = absurd (omega arith)
name_in (n ∷ ns) zero h = take-append_seam n (text_in ns)
name_in (n ∷ ns) (suc k) h =
    let e : length (n ++ text_in (take k ns)) ≡ length n + reach ns k = length-append n (text_in (take k ns)) in
    rw (e, drop-append-add n (text_in ns) (reach ns k)) (name_in ns k (omega arith))
