-- The kind of what follows an optional minus, by the place of its first point.
use mathlib.Core.Path.{◌≡◌, refl, ap, ◌∙◌, sym}
use mathlib.Core.Bool.{Bool, true, false, not}
use mathlib.Core.List.{List, [], ◌∷◌}
use mathlib.Core.Logic.{⊎_elim}
use Prim.Native.Nat.{ℕ, suc, ◌+◌, ◌-◌, ◌≤◌, ◌<◌}
use native.Mathlib.Omega.{arith}
use lib.Dec.{eqb}
use lib.ListN.{length, take, drop, length-drop}
use lib.Seq.{take_all}
use borrow.Author.Tests.{eqb-true, not-true, not-false}
use Rattle.lists.specs.Lists.{pick, both, all_of}
use Rattle.lists.proofs.Tests.{below}
use Rattle.rules.specs.Kinds as Kind
use Rattle.cells.specs.Kinds.{POINT}
use Rattle.cells.specs.KindOf.{is_digit, is_digits, before_point, after_point, whole_kind, number_kind}
use Rattle.cells.proofs.Numerals.{both_false, not-digits}

-- ---- the part before the first point
pub before-within : (u : List ℕ) → length (before_point u) ≤ length u
unfolding before_point
before-within [] = omega arith
before-within (b ∷ u) = go (eqb b POINT) (before-within u)
  where
    go : (t : Bool) → length (before_point u) ≤ length u → length (pick t [] (b ∷ before_point u)) ≤ length (b ∷ u)
    go true h = omega arith
    go false h = omega arith

pub before-take : (u : List ℕ) → take (length (before_point u)) u ≡ before_point u
unfolding before_point
before-take [] = refl
before-take (b ∷ u) = go (eqb b POINT) (before-take u)
  where
    go : (t : Bool) → take (length (before_point u)) u ≡ before_point u
        → take (length (pick t [] (b ∷ before_point u))) (b ∷ u) ≡ pick t [] (b ∷ before_point u)
    go true e = refl
    go false e = ap (λ (l : List ℕ). b ∷ l) e

-- it is the whole text: no point
no-point : (u : List ℕ) → length u ≤ length (before_point u) → (before_point u ≡ u) × (after_point u ≡ [])
unfolding before_point after_point
no-point [] h = (refl, refl)
no-point (b ∷ u) h = go (eqb b POINT) h (no-point u)
  where
    go : (t : Bool) → length (b ∷ u) ≤ length (pick t [] (b ∷ before_point u))
        → (length u ≤ length (before_point u) → (before_point u ≡ u) × (after_point u ≡ []))
        → (pick t [] (b ∷ before_point u) ≡ b ∷ u) × (pick t u (after_point u) ≡ [])
    go true k r = absurd (omega arith)
    go false k r = let e = r (omega arith) in (ap (λ (l : List ℕ). b ∷ l) e.0, e.1)

-- it is not: the rest follows the point, which is no digit
has-point : (u : List ℕ) → length (before_point u) < length u
    → (after_point u ≡ drop (suc (length (before_point u))) u) × (all_of is_digit u ≡ false)
unfolding before_point after_point all_of
has-point [] h = absurd (omega arith)
has-point (b ∷ u) h = go (eqb b POINT) refl h (has-point u)
  where
    go : (t : Bool) → eqb b POINT ≡ t → length (pick t [] (b ∷ before_point u)) < length (b ∷ u)
        → (length (before_point u) < length u
        → (after_point u ≡ drop (suc (length (before_point u))) u) × (all_of is_digit u ≡ false))
        → (pick t u (after_point u) ≡ drop (suc (length (pick t [] (b ∷ before_point u)))) (b ∷ u))
        × (both (is_digit b) (all_of is_digit u) ≡ false)
    go true e k r = (refl, rw (eqb-true b POINT e))
    go false e k r = let f = r (omega arith) in (f.0, rw f.1 (both_false (is_digit b)))

-- ---- the kind
-- the first point at p, or no point: t is whether digits stand before it
module _ (u : List ℕ) (p : ℕ) (t : Bool) (at_p : p ≡ length (before_point u)) (d : t ≡ is_digits (take p u)) where
  before-digits : t ≡ is_digits (before_point u)
  before-digits = d ∙ rw (at_p, before-take u)

  pub number-none : not t ≡ true → Kind.String ≡ number_kind u
  unfolding number_kind
  number-none n =
      let e : is_digits (before_point u) ≡ false = sym before-digits ∙ not-true t n in
      let w : is_digits u ≡ false = ⊎_elim
      (λ (l : length (before_point u) < length u). not-digits u (has-point u l).1)
      (λ (l : length u ≤ length (before_point u)). rw (no-point u l).0 at e)
      (below (length (before_point u)) (length u)) in
      rw (w, e)

  pub number-whole : (k : ℕ) → not t ≡ false → length u ≤ p → k ≡ whole_kind (length u)
      → k ≡ number_kind u
  unfolding number_kind
  number-whole k n l e =
      let b : is_digits (before_point u) ≡ true = sym before-digits ∙ not-false t n in
      let w : is_digits u ≡ true = rw (no-point u (omega arith)).0 at b in
      e ∙ rw (w, (no-point u (omega arith)).1, b)

  -- a point at p: r is whether digits stand after it
  module _ (r : Bool) (n : not t ≡ false) (l : p < length u)
      (e : r ≡ is_digits (take (length u - (p + 1)) (drop (p + 1) u))) where
    pointed-kind : pick r Kind.Float Kind.String ≡ number_kind u
    unfolding number_kind
    pointed-kind =
        let b : is_digits (before_point u) ≡ true = sym before-digits ∙ not-false t n in
        let h = has-point u (omega arith) in
        let k : p + 1 ≡ suc (length (before_point u)) = omega arith in
        let a : take (length u - (p + 1)) (drop (p + 1) u) ≡ after_point u =
        take_all (length u - (p + 1)) (drop (p + 1) u) (omega (arith, length-drop (p + 1) u)) ∙ rw k (sym h.0) in
        rw (e, a, not-digits u h.1, b)

    pub number-float : r ≡ true → Kind.Float ≡ number_kind u
    number-float y = rw y at pointed-kind

    pub number-string : r ≡ false → Kind.String ≡ number_kind u
    number-string y = rw y at pointed-kind
