-- `kind_of_cell` computes the kinds of cells.
use mathlib.Core.Path.{◌≡◌, ◌∙◌, sym, refl}
use mathlib.Core.Bool.{Bool, true, false}
use mathlib.Core.List.{List, [], ◌∷◌, ◌++◌, append-nil}
use mathlib.Core.Logic.{⊎_elim}
use Prim.Native.Nat.{ℕ, ◌≤◌, ◌<◌}
use native.Mathlib.Omega.{arith}
use borrow.Author.Tests.{ne_eqb}
use Rattle.lists.specs.Lists.{pick, either, all_of, any_of, is_empty}
use Rattle.lists.proofs.Tests.{never, either_true}
use Rattle.text.specs.Text.{bytes, same_text, is_text}
use Rattle.text.proofs.Laws.{same-is}
use Rattle.rules.specs.Kinds as Kind
use Rattle.rfc4180.specs.Cells.{Cell, unquoted}
use Rattle.cells.specs.Kinds.{MINUS, POINT, Digits, one_digit, more_digits, Int, whole, minus_whole, Float, pointed, minus_pointed, HasKind, is_null, is_true, is_false, is_int, is_float, is_other, within_quotes}
use Rattle.cells.specs.KindOf.{is_digit, unsigned, is_whole, is_pointed, number_kind, bools, kind_of_cell}
use Rattle.cells.proofs.Numerals.{not-digits, int_is, float_is, of-digit, unsigned-digits}

-- ---- a number begins below the letter f, 66, and t, 74, and so is neither empty nor true nor false
data Low : List ℕ → Type 0 where
  head_low : {a : ℕ} {s : List ℕ} → a < 0x66 → Low (a ∷ s)

no_bool : (a : ℕ) (s : List ℕ) → a < 0x66 → is_text bools (a ∷ s) ≡ false
unfolding any_of same_text bytes
no_bool a s h = rw (ne_eqb a 0x74 (λ (e : a ≡ 0x74). omega arith), ne_eqb a 0x66 (λ (e : a ≡ 0x66). omega arith))

digits_low : {s : List ℕ} (t : List ℕ) → Digits s → Low (s ++ t)
digits_low t (one_digit {a = a} h) = head_low {a = a} (omega (arith, h.high))
digits_low t (more_digits {a = a} h k) = head_low {a = a} (omega (arith, h.high))

int-low : {s : List ℕ} → Int s → Low s
int-low (whole h k) = rw append-nil at (digits_low [] h)
int-low (minus_whole h k) = head_low {a = MINUS} (omega arith)

float-low : {s : List ℕ} → Float s → Low s
float-low (pointed {t = t} h k) = digits_low (POINT ∷ t) h
float-low (minus_pointed h k) = head_low {a = MINUS} (omega arith)

low-kind : {s : List ℕ} → Low s → kind_of_cell (unquoted s) ≡ number_kind (unsigned s)
unfolding kind_of_cell
low-kind (head_low {a = a} {s = s} h) = rw (no_bool a s h)

-- a Float is no Int
point-in : {s : List ℕ} (t : List ℕ) → Digits s → all_of is_digit (s ++ POINT ∷ t) ≡ false
unfolding all_of
point-in t (one_digit h) = rw (of-digit h)
point-in t (more_digits h k) = rw (of-digit h) (point-in t k)

no_whole : (u : List ℕ) → all_of is_digit u ≡ false → is_whole u ≡ false
no_whole u e = rw (not-digits u e)

no-int : {s : List ℕ} → Float s → is_whole (unsigned s) ≡ false
no-int (pointed {s = s} {t = t} h k) = rw (unsigned-digits (POINT ∷ t) h) (no_whole (s ++ POINT ∷ t) (point-in t h))
no-int (minus_pointed {s = s} {t = t} h k) = no_whole (s ++ POINT ∷ t) (point-in t h)

-- ---- each kind is computed
not-true-false : (t : Bool) → (t ≡ true → ⊥) → t ≡ false
not-true-false true n = absurd (n refl)
not-true-false false n = refl

no_name : (s : List ℕ) → (s ≡ bytes "true" → ⊥) → (s ≡ bytes "false" → ⊥) → is_text bools s ≡ false
unfolding any_of
no_name s p q = rw (
  not-true-false (same_text s (bytes "true")) (λ e. p (same-is s (bytes "true") e)),
  not-true-false (same_text s (bytes "false")) (λ e. q (same-is s (bytes "false") e)),
)

not-empty : (s : List ℕ) → (s ≡ [] → ⊥) → is_empty s ≡ false
not-empty [] n = absurd (n refl)
not-empty (a ∷ s) n = refl

true-kind : kind_of_cell (unquoted (bytes "true")) ≡ Kind.Bool
unfolding kind_of_cell any_of same_text bytes
true-kind = refl

false-kind : kind_of_cell (unquoted (bytes "false")) ≡ Kind.Bool
unfolding kind_of_cell any_of same_text bytes
false-kind = refl

other-kind : (s : List ℕ) → is_empty s ≡ false → is_text bools s ≡ false → is_whole (unsigned s) ≡ false
    → is_pointed (unsigned s) ≡ false → kind_of_cell (unquoted s) ≡ Kind.String
unfolding kind_of_cell number_kind
other-kind s a b c d = rw (a, b, c, d)

computed : {c : Cell} {k : ℕ} → HasKind c k → kind_of_cell c ≡ k
unfolding kind_of_cell number_kind
computed is_null = refl
computed is_true = true-kind
computed is_false = false-kind
computed (is_int {s = s} h) = low-kind (int-low h) ∙ rw ((int_is s).1 h)
computed (is_float {s = s} h) = low-kind (float-low h) ∙ rw (no-int h, (float_is s).1 h)
computed (is_other {s = s} a b c d e) =
    other-kind s (not-empty s a) (no_name s b c)
    (not-true-false (is_whole (unsigned s)) (λ h. d ((int_is s).0 h)))
    (not-true-false (is_pointed (unsigned s)) (λ h. e ((float_is s).0 h)))
computed within_quotes = refl

-- ---- what is computed is the kind
not-nil : (a : ℕ) (s : List ℕ) → ◌≡◌ {A = List ℕ} (a ∷ s) [] → ⊥
not-nil a s e = let z : ◌≡◌ {A = ℕ} 0 1 = cc in omega arith

is-name-true : (s : List ℕ) → s ≡ bytes "true" → is_text bools s ≡ true
unfolding any_of same_text bytes
is-name-true s e = rw e

is-name-false : (s : List ℕ) → s ≡ bytes "false" → is_text bools s ≡ true
unfolding any_of same_text bytes
is-name-false s e = rw e

module _ (a : ℕ) (s : List ℕ) where
  named : is_text bools (a ∷ s) ≡ true → HasKind (unquoted (a ∷ s)) Kind.Bool
  unfolding any_of
  named e = ⊎_elim
      (λ p. rw (same-is (a ∷ s) (bytes "true") p) is_true)
      (λ p. ⊎_elim
      (λ q. rw (same-is (a ∷ s) (bytes "false") q) is_false)
      (λ q. never q)
      (either_true (same_text (a ∷ s) (bytes "false")) false p))
      (either_true (same_text (a ∷ s) (bytes "true")) (either (same_text (a ∷ s) (bytes "false")) false) e)

  by_tests : (n i f : Bool) → is_text bools (a ∷ s) ≡ n → is_whole (unsigned (a ∷ s)) ≡ i
      → is_pointed (unsigned (a ∷ s)) ≡ f
      → HasKind (unquoted (a ∷ s)) (pick n Kind.Bool (pick i Kind.Int (pick f Kind.Float Kind.String)))
  by_tests true i f en ei ef = named en
  by_tests false true f en ei ef = is_int ((int_is (a ∷ s)).0 ei)
  by_tests false false true en ei ef = is_float ((float_is (a ∷ s)).0 ef)
  by_tests false false false en ei ef =
      is_other
      (λ e. not-nil a s e)
      (λ e. never (sym en ∙ is-name-true (a ∷ s) e))
      (λ e. never (sym en ∙ is-name-false (a ∷ s) e))
      (λ h. never (sym ei ∙ (int_is (a ∷ s)).1 h))
      (λ h. never (sym ef ∙ (float_is (a ∷ s)).1 h))

kind-of : (q : Bool) (s : List ℕ)
    → HasKind (record { quoted = q; content = s }) (kind_of_cell (record { quoted = q; content = s }))
unfolding kind_of_cell number_kind
kind-of true s = within_quotes
kind-of false [] = is_null
kind-of false (a ∷ s) =
    by_tests a s (is_text bools (a ∷ s)) (is_whole (unsigned (a ∷ s))) (is_pointed (unsigned (a ∷ s))) refl refl refl

-- ---- so it decides the grammar of kinds
pub kinds : (c : Cell) (k : ℕ) → (kind_of_cell c ≡ k → HasKind c k) × (HasKind c k → kind_of_cell c ≡ k)
kinds c k = (λ e. rw e at (kind-of c.quoted c.content), λ h. computed h)

-- there are five kinds
pub kind-bounds : (c : Cell) → (Kind.Null ≤ kind_of_cell c) × (kind_of_cell c ≤ Kind.String)
kind-bounds c = go ((kinds c (kind_of_cell c)).0 refl)
  where
    go : {d : Cell} {k : ℕ} → HasKind d k → (Kind.Null ≤ k) × (k ≤ Kind.String)
    go is_null = (omega arith, omega arith)
    go is_true = (omega arith, omega arith)
    go is_false = (omega arith, omega arith)
    go (is_int h) = (omega arith, omega arith)
    go (is_float h) = (omega arith, omega arith)
    go (is_other a b d e f) = (omega arith, omega arith)
    go within_quotes = (omega arith, omega arith)
