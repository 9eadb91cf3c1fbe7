-- Laws of stores into a list, one run of them after another.
use mathlib.Core.Path.{◌≡◌, refl, ap, ◌∙◌}
use mathlib.Core.List.{List, [], ◌∷◌, ◌++◌}
use Prim.Native.Nat.{ℕ, suc, ◌+◌, ◌≤◌, ◌<◌}
use native.Mathlib.Nat.{add-zero, suc-add, add-suc}
use native.Mathlib.Numerals.{add-one}
use native.Mathlib.Omega.{arith}
use lib.ListN.{length, get_or, set, take}
use lib.Seq.{sets, set_comm, take-suc, length-take-le}

module _ {A : Type 0} where
  -- a run behind a run is one run
  pub sets-join : (l : List A) (i : ℕ) (xs ys : List A) → sets l i (xs ++ ys) ≡ sets (sets l i xs) (i + length xs) ys
  sets-join l i [] ys = rw add-zero
  sets-join l i (x ∷ xs) ys = sets-join (set l i x) (suc i) xs ys ∙ rw (suc-add, add-suc)

  -- of two runs at places apart, either may be first
  set_apart : (l : List A) (i : ℕ) (x : A) (j : ℕ) (ys : List A) → i < j → set (sets l j ys) i x ≡ sets (set l i x) j ys
  set_apart l i x j [] h = refl
  set_apart l i x j (y ∷ ys) h =
      set_apart (set l j y) i x (suc j) ys (omega arith)
      ∙ ap (λ (m : List A). sets m (suc j) ys) (set_comm l j i y x (λ e. omega arith))

  pub sets-apart : (l : List A) (i : ℕ) (xs : List A) (j : ℕ) (ys : List A) → i + length xs ≤ j
      → sets (sets l j ys) i xs ≡ sets (sets l i xs) j ys
  sets-apart l i [] j ys h = refl
  sets-apart l i (x ∷ xs) j ys h =
      ap (λ (m : List A). sets m (suc i) xs) (set_apart l i x j ys (omega arith))
      ∙ sets-apart (set l i x) (suc i) xs j ys (omega arith)

  -- one more element of a run
  pub sets_more : (l : List A) (at : ℕ) (xs : List A) (i : ℕ) (d : A) → i < length xs
      → set (sets l at (take i xs)) (at + i) (get_or xs i d) ≡ sets l at (take (i + 1) xs)
  sets_more l at xs i d h =
      let n : length (take i xs) ≡ i = length-take-le i xs (omega arith) in
      rw (add-one, take-suc xs i d, sets-join, n)
