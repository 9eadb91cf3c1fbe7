-- What folding keeps of a text, and what it means that two texts are the same but for case.
use mathlib.Core.Path.{◌≡◌, ◌∙◌, refl, sym, ap}
use mathlib.Core.List.{List, map-map}
use mathlib.Core.Bool.{true}
use Rattle.std.specs.Char.{to_ascii_lowercase}
use mathlib.Core.Logic.{◌⊎◌, inl, inr, ◌↔◌}
use Prim.Native.Nat.{ℕ, ◌+◌, ◌≤◌, ◌<◌}
use lib.ListN.{length, get_or, length-map, get_or-map}
use native.Mathlib.Omega.{arith}
use borrow.Author.Tests.{le-leb, lt-leb, le-ltb, lt-ltb}
use Rattle.lists.proofs.Tests.{below}
use Rattle.text.specs.Folded.{lower, folded, same_folded}
use Rattle.text.proofs.Laws.{same-equal}

-- a byte lowered: below the capital letters, above them, and one of them
module _ (x : ℕ) where
  pub lower-below : x < 65 → x ≡ lower x
  unfolding lower
  lower-below h = rw (lt-leb 65 x h)

  pub lower-above : 90 < x → x ≡ lower x
  unfolding lower
  lower-above h = rw (le-leb 65 x (omega arith), lt-leb x 90 h)

  pub lower-capital : 65 ≤ x → x ≤ 90 → x + 32 ≡ lower x
  unfolding lower
  lower-capital h g = rw (le-leb 65 x h, le-leb x 90 g)

-- the library lowers a byte so
pub lower-is : (x : ℕ) → to_ascii_lowercase x ≡ lower x
lower-is x = go (below x 65) (below 90 x)
  where
    go : (x < 65) ⊎ (65 ≤ x) → (90 < x) ⊎ (x ≤ 90) → to_ascii_lowercase x ≡ lower x
    go (inl h) d = rw (lt-ltb x 65 h) (lower-below x h)
    go (inr h) (inl g) = rw (le-ltb x 65 h, le-ltb x 91 (omega arith)) (lower-above x g)
    go (inr h) (inr g) = rw (le-ltb x 65 h, lt-ltb x 91 (omega arith)) (lower-capital x h g)

-- a byte that is lowered stays as it is
pub lower-twice : (x : ℕ) → lower (lower x) ≡ lower x
lower-twice x = go (below x 65) (below 90 x)
  where
    go : (x < 65) ⊎ (65 ≤ x) → (90 < x) ⊎ (x ≤ 90) → lower (lower x) ≡ lower x
    go (inl h) d = ap lower (sym (lower-below x h))
    go (inr h) (inl g) = ap lower (sym (lower-above x g))
    go (inr h) (inr g) = sym (lower-above (lower x) (omega (arith, lower-capital x h g)))

-- a folded text is as long as it was, has the bytes that it had, lowered, and stays as it is
pub folded-length : (a : List ℕ) → length (folded a) ≡ length a
folded-length a = length-map a lower

pub folded-at : (a : List ℕ) (i : ℕ) → get_or (folded a) i 0 ≡ lower (get_or a i 0)
unfolding lower
folded-at a i = get_or-map lower a i 0

pub folded-twice : (a : List ℕ) → folded (folded a) ≡ folded a
folded-twice a = simp (map-map, lower-twice)

-- texts are the same but for case where they are equal when folded, and this is an equivalence
pub folded-equal : (a b : List ℕ) → (same_folded a b ≡ true) ↔ (folded a ≡ folded b)
folded-equal a b = same-equal (folded a) (folded b)

pub same-folded : (a b : List ℕ) → a ≡ b → same_folded a b ≡ true
same-folded a b e = (folded-equal a b).1 (ap folded e)

pub folded-refl : (a : List ℕ) → same_folded a a ≡ true
folded-refl a = same-folded a a refl

pub folded-sym : (a b : List ℕ) → same_folded a b ≡ true → same_folded b a ≡ true
folded-sym a b e = (folded-equal b a).1 (sym ((folded-equal a b).0 e))

pub folded-trans : (a b c : List ℕ) → same_folded a b ≡ true → same_folded b c ≡ true → same_folded a c ≡ true
folded-trans a b c e f = (folded-equal a c).1 ((folded-equal a b).0 e ∙ (folded-equal b c).0 f)

-- a folded text is the same as it was, but for case
pub folded-alike : (a : List ℕ) → same_folded (folded a) a ≡ true
folded-alike a = (folded-equal (folded a) a).1 (folded-twice a)
