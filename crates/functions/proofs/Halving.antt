-- A list that rises is searched for a text by halving: the place behind all that are less. And the first of that text
-- stands at that place, or none does.
use mathlib.Core.Path.{◌≡◌, refl, sym, ap, ◌∙◌, subst}
use mathlib.Core.Bool.{Bool, true, false, not}
use mathlib.Core.Logic.{⊎_elim}
use mathlib.Core.List.{List, [], ◌∷◌}
use Prim.Native.Nat.{ℕ, zero, suc, ◌+◌, ◌≤◌, ◌<◌}
use native.Mathlib.Omega.{arith}
use borrow.Author.Tests.{not-true}
use lib.ListN.{length, get_or}
use Rattle.lists.specs.Lists.{pick, first, those}
use Rattle.lists.proofs.Tests.{never, below}
use Rattle.text.specs.Text.{same_text}
use Rattle.text.proofs.Laws.{same-is, same_refl}
use Rattle.in_order.specs.InOrder.{before, Rises, sorted}
use Rattle.in_order.proofs.Before.{before_self, before-neither, before-weak}
use Rattle.in_order.proofs.Sorting.{all-at, head_of}
use Rattle.in_order.proofs.Stable.{stable}
use Rattle.functions.specs.Inner.{Parted}
use Rattle.std.specs.Prelude.{Some, None}

-- ---- the first that passes, by places: none, where none passes, or the one at a place, where none before it passes
module _ (q : ℕ → Bool) where
  first-none : (l : List ℕ) → ((i : ℕ) → i < length l → q (get_or l i 0) ≡ false) → first q l ≡ None
  unfolding first
  first-none [] h = refl
  first-none (x ∷ xs) h = rw (h 0 (omega arith)) (first-none xs (λ i g. h (suc i) (omega arith)))

  first-there : (l : List ℕ) (r : ℕ) → ((i : ℕ) → i < r → q (get_or l i 0) ≡ false) → r < length l
      → q (get_or l r 0) ≡ true → first q l ≡ Some (get_or l r 0)
  unfolding first
  first-there [] r h g e = absurd (omega arith)
  first-there (x ∷ xs) zero h g e = rw e
  first-there (x ∷ xs) (suc r) h g e = rw (h 0 (omega arith))
      (first-there xs r (λ i o. h (suc i) (omega arith)) (omega arith) e)

  first_head : (l : List ℕ) → first q l ≡ head_of (those q l)
  unfolding first those
  first_head [] = refl
  first_head (x ∷ xs) = go (q x) (first_head xs)
    where
      go : (b : Bool) → first q xs ≡ head_of (those q xs)
          → pick b (Some x) (first q xs) ≡ head_of (pick b (x ∷ those q xs) (those q xs))
      go true e = refl
      go false e = e

module _ (text : ℕ → List ℕ) where
  -- sorting keeps the first of a text
  pub first-sorted : (k xs : List ℕ) → first (λ x. same_text (text x) k) (sorted text xs)
      ≡ first (λ x. same_text (text x) k) xs
  first-sorted k xs =
      first_head (λ x. same_text (text x) k) (sorted text xs) ∙ ap head_of (stable text k xs)
      ∙ sym (first_head (λ x. same_text (text x) k) xs)

  -- none is less than one that stands in front of it, by their places
  rises-at : (l : List ℕ) → Rises text l → (i j : ℕ) → i ≤ j → j < length l
      → before (text (get_or l j 0)) (text (get_or l i 0)) ≡ false
  rises-at [] a i j h g = absurd (omega arith)
  rises-at (x ∷ xs) a zero zero h g = before_self (text x)
  rises-at (x ∷ xs) a zero (suc j) h g = not-true (before (text (get_or xs j 0)) (text x))
      (all-at (λ y. not (before (text y) (text x))) xs j 0 a.0 (omega arith))
  rises-at (x ∷ xs) a (suc i) zero h g = absurd (omega arith)
  rises-at (x ∷ xs) a (suc i) (suc j) h g = rises-at xs a.1 i j (omega arith) (omega arith)

  module _ (k l : List ℕ) where
    -- ---- the search
    pub parted-start : Parted text k l 0 (length l)
    parted-start = record {
      ordered = omega arith;
      inside = omega arith;
      less = λ i h. absurd (omega arith);
      others = λ i h g. absurd (omega arith);
    }

    pub parted-end : {low high : ℕ} → Parted text k l low high → high ≤ low → Parted text k l low low
    parted-end {low} {high} p h =
        let e : high ≡ low = omega (arith, p.ordered) in
        subst (λ (n : ℕ). Parted text k l low n) e p

    module _ (up : Rises text l) {low high : ℕ} (mid : ℕ) (p : Parted text k l low high) (in' : mid < high) where
      -- what is in front of one that is less is less
      front_less : before (text (get_or l mid 0)) k ≡ true → (i : ℕ) → i ≤ mid → before (text (get_or l i 0)) k ≡ true
      front_less e i h = go (before (text (get_or l i 0)) k) refl
        where
          go : (b : Bool) → before (text (get_or l i 0)) k ≡ b → before (text (get_or l i 0)) k ≡ true
          go true f = f
          go false f = never (sym (before-weak (text (get_or l mid 0)) (text (get_or l i 0)) k
              (rises-at l up i mid h (omega (arith, p.inside))) f) ∙ e)

      pub parted-up : before (text (get_or l mid 0)) k ≡ true → Parted text k l (mid + 1) high
      parted-up e = record {
        ordered = omega arith;
        inside = p.inside;
        less = λ i h. front_less e i (omega arith);
        others = p.others;
      }

      pub parted-down : low ≤ mid → before (text (get_or l mid 0)) k ≡ false → Parted text k l low mid
      parted-down h e = record {
        ordered = h;
        inside = omega (arith, p.inside);
        less = p.less;
        others = λ i g o. before-weak (text (get_or l i 0)) (text (get_or l mid 0)) k (rises-at l up mid i g o) e;
      }

    -- ---- what is found
    abbrev has : ℕ → Bool
    has x = same_text (text x) k

    less_other : (x : ℕ) → before (text x) k ≡ true → has x ≡ false
    less_other x e = go (has x) refl
      where
        go : (b : Bool) → has x ≡ b → has x ≡ false
        go true f =
            let h : text x ≡ k = same-is (text x) k f in
            never (sym (before_self k) ∙ subst (λ (m : List ℕ). before m k ≡ true) h e)
        go false f = f

    module _ (r : ℕ) (p : Parted text k l r r) where
      pub none_before : length l ≤ r → first has l ≡ None
      none_before h = first-none has l (λ i g. less_other (get_or l i 0) (p.less i (omega arith)))

      pub one-there : r < length l → has (get_or l r 0) ≡ true → first has l ≡ Some (get_or l r 0)
      one-there h e = first-there has l r (λ i g. less_other (get_or l i 0) (p.less i g)) h e

      pub none-there : Rises text l → r < length l → has (get_or l r 0) ≡ false → first has l ≡ None
      none-there up h e = first-none has l (λ i g. ⊎_elim
          (λ o. less_other (get_or l i 0) (p.less i o))
          (λ o. behind i o g)
          (below i r))
        where
          -- one behind that has the text would be the place's equal
          same_place : (i : ℕ) → r ≤ i → i < length l → text (get_or l i 0) ≡ k → has (get_or l r 0) ≡ true
          same_place i o g f =
              let a : before k (text (get_or l r 0)) ≡ false = subst
              (λ (m : List ℕ). before m (text (get_or l r 0)) ≡ false) f (rises-at l up r i o g) in
              let n : k ≡ text (get_or l r 0) = before-neither k (text (get_or l r 0)) a (p.others r (omega arith) h) in
              subst (λ (m : List ℕ). same_text m k ≡ true) n (same_refl k)

          behind : (i : ℕ) → r ≤ i → i < length l → has (get_or l i 0) ≡ false
          behind i o g = go (has (get_or l i 0)) refl
            where
              go : (b : Bool) → has (get_or l i 0) ≡ b → has (get_or l i 0) ≡ false
              go true f = never (sym e ∙ same_place i o g (same-is (text (get_or l i 0)) k f))
              go false f = f
