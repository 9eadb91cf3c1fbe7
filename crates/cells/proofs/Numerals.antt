-- `is_whole` and `is_pointed`, after an optional minus, decide the grammar of numbers.
use mathlib.Core.Path.{◌≡◌, refl, ap}
use mathlib.Core.Bool.{Bool, true, false}
use mathlib.Core.List.{List, [], ◌∷◌, ◌++◌, append-nil}
use Prim.Native.Nat.{ℕ, ◌≤◌}
use native.Mathlib.Omega.{arith}
use lib.Dec.{leb, eqb}
use lib.ListN.{length}
use borrow.Author.Tests.{leb-true, le-leb, eqb-true, ne_eqb}
use Rattle.lists.specs.Lists.{pick, both, all_of}
use Rattle.lists.proofs.Tests.{never, both_true, true-both}
use Rattle.utf8.specs.Grammar.{In}
use Rattle.cells.specs.Kinds.{MINUS, POINT, FIRST_DIGIT, LAST_DIGIT, most_digits, Digits, one_digit, more_digits, Int, whole, minus_whole, Float, pointed, minus_pointed}
use Rattle.cells.specs.KindOf.{is_digit, is_digits, unsigned, before_point, after_point, is_whole, is_pointed}

pub both_false : (t : Bool) → both t false ≡ false
both_false true = refl
both_false false = refl

-- ---- digits
digit-of : (a : ℕ) → is_digit a ≡ true → In FIRST_DIGIT LAST_DIGIT a
digit-of a e =
    let g = both_true (leb FIRST_DIGIT a) (leb a LAST_DIGIT) e in
    record { low = leb-true FIRST_DIGIT a g.0; high = leb-true a LAST_DIGIT g.1 }

pub of-digit : {a : ℕ} → In FIRST_DIGIT LAST_DIGIT a → is_digit a ≡ true
of-digit {a} h = true-both (le-leb FIRST_DIGIT a h.low) (le-leb a LAST_DIGIT h.high)

all_digits : (a : ℕ) (s : List ℕ) → all_of is_digit (a ∷ s) ≡ true → Digits (a ∷ s)
unfolding all_of
all_digits a [] e = one_digit (digit-of a (both_true (is_digit a) true e).0)
all_digits a (b ∷ s) e =
    let g = both_true (is_digit a) (all_of is_digit (b ∷ s)) e in
    more_digits (digit-of a g.0) (all_digits b s g.1)

digits_of : (s : List ℕ) → is_digits s ≡ true → Digits s
digits_of [] e = never e
digits_of (a ∷ s) e = all_digits a s (both_true (leb 1 (length (a ∷ s))) (all_of is_digit (a ∷ s)) e).1

of-all : {s : List ℕ} → Digits s → all_of is_digit s ≡ true
unfolding all_of
of-all (one_digit h) = rw (of-digit h)
of-all (more_digits h k) = true-both (of-digit h) (of-all k)

pub not-digits : (s : List ℕ) → all_of is_digit s ≡ false → is_digits s ≡ false
not-digits s e = rw e (both_false (leb 1 (length s)))

some-digit : {s : List ℕ} → Digits s → 1 ≤ length s
some-digit (one_digit h) = omega arith
some-digit (more_digits h k) = omega arith

of-digits : {s : List ℕ} → Digits s → is_digits s ≡ true
of-digits {s} h = true-both (le-leb 1 (length s) (some-digit h)) (of-all h)

-- no minus before digits
pub unsigned-digits : {s : List ℕ} (t : List ℕ) → Digits s → unsigned (s ++ t) ≡ s ++ t
unsigned-digits t (one_digit {a = a} h) = rw (ne_eqb a MINUS (λ e. omega (arith, h.low)))
unsigned-digits t (more_digits {a = a} h k) = rw (ne_eqb a MINUS (λ e. omega (arith, h.low)))

before-point : {s : List ℕ} (t : List ℕ) → Digits s → before_point (s ++ POINT ∷ t) ≡ s
unfolding before_point
before-point t (one_digit {a = a} h) = rw (ne_eqb a POINT (λ e. omega (arith, h.low)))
before-point t (more_digits {a = a} h k) = rw (ne_eqb a POINT (λ e. omega (arith, h.low)), before-point t k)

after-point : {s : List ℕ} (t : List ℕ) → Digits s → after_point (s ++ POINT ∷ t) ≡ t
unfolding after_point
after-point t (one_digit {a = a} h) = rw (ne_eqb a POINT (λ e. omega (arith, h.low)))
after-point t (more_digits {a = a} h k) = rw (ne_eqb a POINT (λ e. omega (arith, h.low))) (after-point t k)

-- ---- an optional minus
data Sign : List ℕ → List ℕ → Type 0 where
  no_minus : {s : List ℕ} → Sign s s
  with_minus : {s : List ℕ} → Sign (MINUS ∷ s) s

sign_of : (s : List ℕ) → Sign s (unsigned s)
sign_of [] = no_minus
sign_of (b ∷ s) = go (eqb b MINUS) refl
  where
    go : (t : Bool) → eqb b MINUS ≡ t → Sign (b ∷ s) (pick t s (b ∷ s))
    go true e = rw (eqb-true b MINUS e) with_minus
    go false e = no_minus

-- ---- Int
int_of : {s u : List ℕ} → Sign s u → Digits u → length u ≤ most_digits → Int s
int_of no_minus h k = whole h k
int_of with_minus h k = minus_whole h k

of-int : {s : List ℕ} → Int s → is_whole (unsigned s) ≡ true
of-int (whole {s = s} h k) =
    let e : unsigned s ≡ s = rw append-nil at (unsigned-digits [] h) in
    rw e (true-both (of-digits h) (le-leb (length s) most_digits k))
of-int (minus_whole {s = s} h k) = true-both (of-digits h) (le-leb (length s) most_digits k)

pub int_is : (s : List ℕ) → (is_whole (unsigned s) ≡ true → Int s) × (Int s → is_whole (unsigned s) ≡ true)
int_is s = (λ e. of-tests e, λ h. of-int h)
  where
    of-tests : is_whole (unsigned s) ≡ true → Int s
    of-tests e =
        let g = both_true (is_digits (unsigned s)) (leb (length (unsigned s)) most_digits) e in
        int_of (sign_of s) (digits_of (unsigned s) g.0) (leb-true (length (unsigned s)) most_digits g.1)

-- ---- Float
joined : (u : List ℕ) → 1 ≤ length (after_point u) → before_point u ++ POINT ∷ after_point u ≡ u
unfolding before_point after_point
joined [] h = absurd (omega arith)
joined (b ∷ u) h = go (eqb b POINT) refl h (λ k. joined u k)
  where
    go : (t : Bool) → eqb b POINT ≡ t → 1 ≤ length (pick t u (after_point u))
        → (1 ≤ length (after_point u) → before_point u ++ POINT ∷ after_point u ≡ u)
        → pick t [] (b ∷ before_point u) ++ POINT ∷ pick t u (after_point u) ≡ b ∷ u
    go true e k ih = rw (eqb-true b POINT e)
    go false e k ih = ap (λ (l : List ℕ). b ∷ l) (ih k)

float_of : {s u : List ℕ} → Sign s u → Digits (before_point u) → Digits (after_point u) → Float s
float_of {u = u} no_minus h k = rw (joined u (some-digit k)) at (pointed h k)
float_of {u = u} with_minus h k = rw (joined u (some-digit k)) at (minus_pointed h k)

of-float : {s : List ℕ} → Float s → is_pointed (unsigned s) ≡ true
of-float (pointed {t = t} h k) =
    rw (unsigned-digits (POINT ∷ t) h, before-point t h, after-point t h)
    (true-both (of-digits h) (of-digits k))
of-float (minus_pointed {t = t} h k) = rw (before-point t h, after-point t h) (true-both (of-digits h) (of-digits k))

pub float_is : (s : List ℕ) → (is_pointed (unsigned s) ≡ true → Float s) × (Float s → is_pointed (unsigned s) ≡ true)
float_is s = (λ e. of-tests e, λ h. of-float h)
  where
    of-tests : is_pointed (unsigned s) ≡ true → Float s
    of-tests e =
        let g = both_true (is_digits (before_point (unsigned s))) (is_digits (after_point (unsigned s))) e in
        float_of (sign_of s) (digits_of (before_point (unsigned s)) g.0) (digits_of (after_point (unsigned s)) g.1)
