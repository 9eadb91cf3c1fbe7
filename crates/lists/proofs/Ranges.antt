-- Laws of a number that is one of a list or of a range, and of a test that is computed over a range.
use mathlib.Core.Path.{◌≡◌, refl, sym, subst, ◌∙◌}
use mathlib.Core.List.{List, [], ◌∷◌, ◌++◌}
use mathlib.Core.Bool.{Bool, true, false}
use mathlib.Core.Logic.{⊎_elim}
use Prim.Native.Nat.{ℕ, zero, suc, ◌+◌, ◌-◌, ◌≤◌, ◌<◌}
use native.Mathlib.Omega.{arith}
use native.Mathlib.Nat.{eq-or-lt_of_le}
use lib.Dec.{eqb}
use borrow.Author.Tests.{eq-eqb, ne_eqb}
use Rattle.lists.specs.Lists.{both, either, table, any_of, through, is_one}
use Rattle.lists.proofs.Tests.{never, both_true, below}

-- one of two lists
pub one-append : (as' bs : List ℕ) (k : ℕ) → is_one (as' ++ bs) k ≡ either (is_one as' k) (is_one bs k)
unfolding any_of
one-append [] bs k = refl
one-append (a ∷ as') bs k = rw (one-append as' bs k) (regroup (eqb k a) (is_one as' k) (is_one bs k))
  where
    regroup : (x y z : Bool) → either x (either y z) ≡ either (either x y) z
    regroup true y z = refl
    regroup false y z = refl

-- the numbers from a on, n in all
one_below : (n a k : ℕ) → k < a → is_one (table (λ j. j) a n) k ≡ false
unfolding any_of table
one_below zero a k h = refl
one_below (suc n) a k h = simp (ne_eqb k a (λ e. omega arith), one_below n (suc a) k (omega arith))

one-above : (n a k : ℕ) → a + n ≤ k → is_one (table (λ j. j) a n) k ≡ false
unfolding any_of table
one-above zero a k h = refl
one-above (suc n) a k h = simp (ne_eqb k a (λ e. omega arith), one-above n (suc a) k (omega arith))

one_in : (n a k : ℕ) → a ≤ k → k < a + n → is_one (table (λ j. j) a n) k ≡ true
unfolding any_of table
one_in zero a k h g = absurd (omega arith)
one_in (suc n) a k h g = ⊎_elim
    (λ (e : a ≡ k). simp (eq-eqb k a (sym e)))
    (λ (l : a < k). simp (ne_eqb k a (λ e. omega arith), one_in n (suc a) k l (omega arith)))
    (eq-or-lt_of_le h)

-- the numbers from a to b
module _ (a b k : ℕ) where
  pub through-below : k < a → is_one (through a b) k ≡ false
  through-below h = one_below (suc b - a) a k h

  pub through-above : a ≤ k → b < k → is_one (through a b) k ≡ false
  through-above g h = one-above (suc b - a) a k (omega arith)

  pub through-in : a ≤ k → k ≤ b → is_one (through a b) k ≡ true
  through-in g h = one_in (suc b - a) a k g (omega arith)

pub through-bounds : (a b k : ℕ) → is_one (through a b) k ≡ true → (a ≤ k) × (k ≤ b)
through-bounds a b k h = ⊎_elim
    (λ l. never (sym (through-below a b k l) ∙ h))
    (λ l. ⊎_elim (λ g. never (sym (through-above a b k l g) ∙ h)) (λ g. (l, g)) (below b k))
    (below k a)

-- a test passes at each of the n numbers from a on
unfoldable pub every_from : (ℕ → Bool) → ℕ → ℕ → Bool
every_from t a zero = true
every_from t a (suc n) = both (t a) (every_from t (suc a) n)

pub every-at : (t : ℕ → Bool) (n a k : ℕ) → every_from t a n ≡ true → a ≤ k → k < a + n → t k ≡ true
unfolding every_from
every-at t zero a k e h g = absurd (omega arith)
every-at t (suc n) a k e h g =
    let p = both_true (t a) (every_from t (suc a) n) e in
    ⊎_elim
    (λ (i : a ≡ k). subst (λ (j : ℕ). t j ≡ true) i p.0)
    (λ (l : a < k). every-at t n (suc a) k p.1 l (omega arith))
    (eq-or-lt_of_le h)
