-- Parts of a list: numbers that stand from a place on, and pieces of it that stand one behind another.
use mathlib.Core.Path.{◌≡◌, refl, sym, ap, ◌∙◌}
use mathlib.Core.List.{List, ◌∷◌, ◌++◌}
use Prim.Native.Nat.{ℕ, zero, suc, ◌+◌, ◌*◌, ◌≤◌}
use native.Mathlib.Nat.{mul-zero, mul-suc}
use native.Mathlib.Omega.{arith}
use lib.ListN.{length, get_or, take, drop, take-append-drop}
use lib.Seq.{drop-cons, drop-drop, take-add}
use Rattle.lists.specs.Lists.{table, each}

-- so many from a place on, and what stands behind them
pub seam : {A : Type 0} (l : List A) (a n b : ℕ) → a + n ≡ b → take n (drop a l) ++ drop b l ≡ drop a l
seam {A} l a n b e =
    ap (λ (r : List A). take n (drop a l) ++ r) (sym (drop-drop n a l ∙ ap (λ (j : ℕ). drop j l) e))
    ∙ take-append-drop n (drop a l)

-- numbers that f gives from a place on
pub numbers-there : (l : List ℕ) (f : ℕ → ℕ) (at : ℕ) → ((i : ℕ) → f i ≡ get_or l (at + i) 0) → (n k : ℕ)
    → at + k + n ≤ length l → table f k n ≡ take n (drop (at + k) l)
unfolding table
numbers-there l f at is zero k h = refl
numbers-there l f at is (suc n) k h =
    let e : at + suc k ≡ suc (at + k) = omega arith in
    let r : table f (suc k) n ≡ take n (drop (suc (at + k)) l) =
    numbers-there l f at is n (suc k) (omega arith) ∙ ap (λ (j : ℕ). take n (drop j l)) e in
    rw (drop-cons l (at + k) 0 (omega arith)) (λ i. is k i ∷ r i)

-- pieces of w numbers each, from a place on
module _ {A : Type 0} (l : List ℕ) (w at : ℕ) (piece : A → List ℕ) (h : ℕ → A)
    (is : (k : ℕ) → at + w * k + w ≤ length l → piece (h k) ≡ take w (drop (at + w * k) l)) where
  pub pieces-there : (n k : ℕ) → at + w * k + w * n ≤ length l
      → each piece (table h k n) ≡ take (w * n) (drop (at + w * k) l)
  unfolding each table
  pieces-there zero k b = rw (mul-zero w)
  pieces-there (suc n) k b =
      let e : at + w * suc k ≡ at + w * k + w = omega (arith, mul-suc w k) in
      let m : w * suc n ≡ w + w * n = omega (arith, mul-suc w n) in
      let r : each piece (table h (suc k) n) ≡ take (w * n) (drop (at + w * suc k) l) =
      pieces-there n (suc k) (omega (arith, e, m)) in
      let d : drop w (drop (at + w * k) l) ≡ drop (at + w * suc k) l =
      drop-drop w (at + w * k) l ∙ ap (λ (j : ℕ). drop j l) (sym e) in
      let a : piece (h k) ≡ take w (drop (at + w * k) l) = is k (omega (arith, m)) in
      (λ i. a i ++ r i)
      ∙ sym (ap (λ (j : ℕ). take j (drop (at + w * k) l)) m ∙ take-add w (w * n) (drop (at + w * k) l)
      ∙ ap (λ (x : List ℕ). take w (drop (at + w * k) l) ++ take (w * n) x) d)

  -- all of them
  pub all-pieces : (n : ℕ) → at + w * n ≤ length l → each piece (table h 0 n) ≡ take (w * n) (drop at l)
  all-pieces n b =
      let e : at + w * 0 ≡ at = omega (arith, mul-zero w) in
      pieces-there n 0 (omega (arith, mul-zero w)) ∙ ap (λ (j : ℕ). take (w * n) (drop j l)) e
