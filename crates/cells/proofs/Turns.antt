-- One turn of each loop over a row or a raw cell, and its ends.
use mathlib.Core.Path.{◌≡◌, ◌∙◌, sym, refl}
use mathlib.Core.Bool.{Bool, true, false}
use mathlib.Core.List.{List, [], ◌∷◌}
use mathlib.Core.Logic.{◌≢◌}
use Prim.Native.Nat.{ℕ, ◌+◌, ◌≤◌, ◌<◌}
use native.Mathlib.Omega.{arith}
use lib.ListN.{length, get_or, drop}
use borrow.Author.Tests.{eq-eqb, ne_eqb, le-leb}
use Rattle.std.specs.Prelude.{◌&&◌, leb, Option}
use Rattle.std.specs.Char.{is_ascii_digit}
use Rattle.std.specs.List.{list_all, AllWithin, HoldsAt}
use Rattle.std.specs.Option.{MatchOption, unwrap_or}
use Rattle.std.proofs.lemmas.Iterator.{index_from_first}
use Rattle.lists.specs.Lists.{all_of, both}
use Rattle.lists.proofs.Laws.{rest_more, rest-none}
use Rattle.cells.specs.Kinds.{POINT, FIRST_DIGIT, LAST_DIGIT}
use Rattle.cells.specs.KindOf.{is_digit, is_digits, before_point}
use Rattle.cells.specs.Raw.{ends_cell, turned, first_cell}

-- ---- along a raw cell to its end
module _ (s : List ℕ) (i : ℕ) (q : Bool) (x : ℕ) (p : i + length (first_cell (drop i s) q) ≡ x) where
  -- a byte that does not end the cell
  pub cell-turn : (t q' : Bool) → i < length s → t ≡ ends_cell q (get_or s i 0) → t ≡ false → q' ≡ turned q (get_or s i 0)
      → i + 1 + length (first_cell (drop (i + 1) s) q') ≡ x
  unfolding first_cell
  cell-turn t q' h e f g = rw g (omega (arith, rw (rest_more s i h, sym e ∙ f) at p))

  -- one that does
  pub cell-stop : (t : Bool) → i < length s → t ≡ ends_cell q (get_or s i 0) → t ≡ true → i ≡ x
  unfolding first_cell
  cell-stop t h e f = omega (arith, rw (rest_more s i h, sym e ∙ f) at p)

  -- the end of the row
  pub cell-last : length s ≤ i → i ≡ x
  unfolding first_cell
  cell-last h = omega (arith, rw (rest-none s i h) at p)

-- ---- digits, and at least one
pub all-digits : (s : List ℕ) → list_all is_ascii_digit s ≡ all_of is_digit s
unfolding all_of
all-digits [] = refl
all-digits (b ∷ s) = go (leb FIRST_DIGIT b) (leb b LAST_DIGIT) (all-digits s)
  where
    go : (t u : Bool) → list_all is_ascii_digit s ≡ all_of is_digit s
        → (t && u) && list_all is_ascii_digit s ≡ both (both t u) (all_of is_digit s)
    go true true e = e
    go true false e = refl
    go false u e = refl

pub digits-none : (s : List ℕ) → length s ≡ 0 → false ≡ is_digits s
digits-none s h = rw h

pub digits-start : (s : List ℕ) → (length s ≡ 0 → ⊥) → all_of is_digit s ≡ is_digits s
digits-start s h = rw (le-leb 1 (length s) (omega arith))

-- ---- a text up to its first point
point_none : length (before_point []) ≡ 0
unfolding before_point
point_none = refl

point-here : (x : ℕ) (s : List ℕ) → x ≡ POINT → length (before_point (x ∷ s)) ≡ 0
unfolding before_point
point-here x s e = rw (eq-eqb x POINT e)

point-later : (x : ℕ) (s : List ℕ) → x ≢ POINT → length (before_point (x ∷ s)) ≡ length (before_point s) + 1
unfolding before_point
point-later x s n = rw (ne_eqb x POINT n) (omega arith)

pub point-first : (s : List ℕ) (r : Option ℕ)
    → MatchOption r (AllWithin (λ x. x ≢ POINT) s 0 (length s))
    (λ i. (i < length s) × HoldsAt (λ x. x ≡ POINT) s i × AllWithin (λ x. x ≢ POINT) s 0 i)
    → length (before_point s) ≡ unwrap_or r (length s)
point-first =
    index_from_first (λ s. length (before_point s)) (λ x. x ≡ POINT) (λ x. x ≢ POINT) point_none point-here point-later
