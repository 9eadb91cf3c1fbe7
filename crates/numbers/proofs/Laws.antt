-- What the least number of a text means: equal texts alone share one, and none is above the text's own number.
use mathlib.Core.Path.{◌≡◌, ◌∙◌, refl, sym, ap, subst}
use mathlib.Core.Bool.{Bool, true, false}
use mathlib.Core.Logic.{◌↔◌}
use mathlib.Core.List.{List, [], ◌∷◌}
use Prim.Native.Nat.{ℕ, zero, suc, ◌≤◌, ◌<◌}
use native.Mathlib.Omega.{arith}
use lib.Dec.{eqb}
use lib.ListN.{length, get_or}
use borrow.Author.Tests.{eq-eqb, ne_eqb}
use Rattle.lists.specs.Lists.{pick}
use Rattle.lists.proofs.Tests.{never}
use Rattle.text.specs.Text.{same_text}
use Rattle.text.proofs.Laws.{same-is, same_refl}
use Rattle.numbers.specs.Least.{text_at, place_of, least_same, Numbered}

-- ---- the first place of a text
pub place_at : (ts : List (List ℕ)) (x : List ℕ) → place_of ts x < length ts → text_at ts (place_of ts x) ≡ x
unfolding place_of
place_at [] x h = absurd (omega arith)
place_at (t ∷ ts) x h = go (same_text t x) refl (place_at ts x) h
  where
    go : (q : Bool) → same_text t x ≡ q → (place_of ts x < length ts → text_at ts (place_of ts x) ≡ x) → pick q 0 (suc (place_of ts x)) < suc (length ts)
        → text_at (t ∷ ts) (pick q 0 (suc (place_of ts x))) ≡ x
    go true e r l = same-is t x e
    go false e r l = r (omega arith)

pub place-low : (ts : List (List ℕ)) (x : List ℕ) (i : ℕ) → i < length ts → text_at ts i ≡ x → place_of ts x ≤ i
unfolding place_of
place-low [] x i h e = absurd (omega arith)
place-low (t ∷ ts) x zero h e =
    let q : same_text t x ≡ true = subst (λ (y : List ℕ). same_text t y ≡ true) e (same_refl t) in
    rw q (omega arith)
place-low (t ∷ ts) x (suc i) h e = go (same_text t x) (place-low ts x i (omega arith) e)
  where
    go : (q : Bool) → place_of ts x ≤ i → pick q 0 (suc (place_of ts x)) ≤ suc i
    go true r = omega arith
    go false r = omega arith

-- ---- the least number of text i
module _ (ts : List (List ℕ)) (i : ℕ) (h : i < length ts) where
  pub least-low : least_same ts i ≤ i
  unfolding least_same
  least-low = place-low ts (text_at ts i) i h refl

  pub least-text : text_at ts (least_same ts i) ≡ text_at ts i
  unfolding least_same
  least-text = place_at ts (text_at ts i) (omega (arith, place-low ts (text_at ts i) i h refl))

pub same-least : (ts : List (List ℕ)) (i j : ℕ) → text_at ts i ≡ text_at ts j → least_same ts i ≡ least_same ts j
unfolding least_same
same-least ts i j e = ap (place_of ts) e

-- equal texts alone share a number
pub least-equal : (ts : List (List ℕ)) (i j : ℕ) → i < length ts → j < length ts → (least_same ts i ≡ least_same ts j) ↔ (text_at ts i ≡ text_at ts j)
least-equal ts i j h g =
    (λ e. sym (least-text ts i h) ∙ ap (text_at ts) e ∙ least-text ts j g, same-least ts i j)

-- a test of two numbers that are equal exactly where two texts are is the test of the texts
pub same_test : (a b : ℕ) (x y : List ℕ) → (a ≡ b → x ≡ y) → (x ≡ y → a ≡ b) → eqb a b ≡ same_text x y
same_test a b x y to from = go (same_text x y) refl
  where
    go : (q : Bool) → same_text x y ≡ q → eqb a b ≡ q
    go true e = eq-eqb a b (from (same-is x y e))
    go false e = ne_eqb a b (λ o. never (sym e ∙ subst (λ (z : List ℕ). same_text x z ≡ true) (to o) (same_refl x)))

-- ---- what whoever has the numbers goes by
module _ (ts : List (List ℕ)) (n : ℕ) (ids : List ℕ) (z : Numbered ts n ids) (all : n ≤ length ts) where
  -- names have the same text exactly where they have the same number
  pub numbers-same : (i j : ℕ) → i < n → j < n → eqb (get_or ids i 0) (get_or ids j 0) ≡ same_text (text_at ts i) (text_at ts j)
  numbers-same i j h g =
      let e = least-equal ts i j (omega arith) (omega arith) in
      rw (z.each i h, z.each j g) (same_test _ _ _ _ e.0 e.1)

  -- a number is that of a name, and not above the name's own
  pub numbers-low : (i : ℕ) → i < n → get_or ids i 0 ≤ i
  numbers-low i h = rw (z.each i h) (least-low ts i (omega arith))
