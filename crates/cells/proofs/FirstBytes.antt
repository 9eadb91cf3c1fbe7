-- The tests of a cell's first bytes: whether it is true or false, quoted, or has a minus.
use mathlib.Core.Path.{◌≡◌, refl, ap, ◌∙◌, sym}
use mathlib.Core.Bool.{Bool, true, false}
use mathlib.Core.List.{List, [], ◌∷◌}
use Prim.Native.Nat.{ℕ, ◌-◌, ◌<◌}
use native.Mathlib.Omega.{arith}
use lib.ListN.{length, get_or, take, drop}
use lib.Seq.{take_all}
use borrow.Author.Tests.{eq-eqb, ne_eqb}
use Rattle.lists.specs.Lists.{pick, either, any_of}
use Rattle.text.specs.Text.{bytes, same_text, is_text}
use Rattle.rules.specs.Kinds as Kind
use Rattle.rfc4180.specs.Grammar.{DQUOTE}
use Rattle.cells.specs.Kinds.{MINUS}
use Rattle.cells.specs.KindOf.{unsigned, number_kind, bools, kind_of_cell}
use Rattle.cells.specs.Raw.{undoubled, cell_of}

pub bool-first : (s : List ℕ) (t : Bool) → t ≡ same_text s (bytes "true") → t ≡ true → true ≡ is_text bools s
unfolding any_of
bool-first s t e f = rw (sym e ∙ f)

pub bool-second : (s : List ℕ) (t u : Bool) → t ≡ same_text s (bytes "true") → t ≡ false → u ≡ same_text s (bytes "false")
    → u ≡ is_text bools s
unfolding any_of
bool-second s t u e f g = g ∙ rw (sym e ∙ f) (go (same_text s (bytes "false")))
  where
    go : (x : Bool) → x ≡ either x false
    go true = refl
    go false = refl

-- ---- a raw cell by its first byte
pub kind-none : (raw : List ℕ) → length raw ≡ 0 → Kind.Null ≡ kind_of_cell (cell_of raw)
unfolding kind_of_cell cell_of
kind-none [] h = refl
kind-none (b ∷ s) h = absurd (omega arith)

pub kind-quoted : (raw : List ℕ) → (length raw ≡ 0 → ⊥) → get_or raw 0 0 ≡ DQUOTE → Kind.String ≡ kind_of_cell (cell_of raw)
unfolding kind_of_cell cell_of
kind-quoted [] h q = absurd (h refl)
kind-quoted (b ∷ s) h q = rw q

-- neither empty nor quoted: x is whether it is true or false
plain-kind : (raw : List ℕ) {x : Bool} → (length raw ≡ 0 → ⊥) → (get_or raw 0 0 ≡ DQUOTE → ⊥) → x ≡ is_text bools raw
    → pick x Kind.Bool (number_kind (unsigned raw)) ≡ kind_of_cell (cell_of raw)
unfolding kind_of_cell cell_of
plain-kind [] h n e = absurd (h refl)
plain-kind (b ∷ s) h n e = rw (ne_eqb b DQUOTE n, e)

unsigned-minus : (raw : List ℕ) → get_or raw 0 0 ≡ MINUS → take (length raw - 1) (drop 1 raw) ≡ unsigned raw
unsigned-minus [] m = absurd (omega arith)
unsigned-minus (b ∷ s) m = rw (eq-eqb b MINUS m) (take_all (length (b ∷ s) - 1) s (omega arith))

unsigned-plain : (raw : List ℕ) → (get_or raw 0 0 ≡ MINUS → ⊥) → unsigned raw ≡ raw
unsigned-plain [] m = refl
unsigned-plain (b ∷ s) m = rw (ne_eqb b MINUS m)

module _ (raw : List ℕ) (x : Bool) (h : length raw ≡ 0 → ⊥) (n : get_or raw 0 0 ≡ DQUOTE → ⊥)
    (e : x ≡ is_text bools raw) where
  pub kind-bool : x ≡ true → Kind.Bool ≡ kind_of_cell (cell_of raw)
  kind-bool y = rw y at (plain-kind raw h n e)

  number-cell : x ≡ false → number_kind (unsigned raw) ≡ kind_of_cell (cell_of raw)
  number-cell y = rw y at (plain-kind raw h n e)

  pub kind-minus : (k : ℕ) → x ≡ false → get_or raw 0 0 ≡ MINUS → k ≡ number_kind (take (length raw - 1) (drop 1 raw))
      → k ≡ kind_of_cell (cell_of raw)
  kind-minus k y m g = g ∙ ap number_kind (unsigned-minus raw m) ∙ number-cell y

  pub kind-plain : (k : ℕ) → x ≡ false → (get_or raw 0 0 ≡ MINUS → ⊥) → k ≡ number_kind raw → k ≡ kind_of_cell (cell_of raw)
  kind-plain k y m g = g ∙ sym (ap number_kind (unsigned-plain raw m)) ∙ number-cell y

-- ---- how long its content is
module _ (raw : List ℕ) where
  pub content-quoted : (n : ℕ) → get_or raw 0 0 ≡ DQUOTE → n ≡ length (undoubled (take (length raw - 1) (drop 1 raw)))
      → n ≡ length (cell_of raw).content
  unfolding cell_of
  content-quoted n q e = e ∙ go raw q
    where
      go : (raw : List ℕ) → get_or raw 0 0 ≡ DQUOTE
          → length (undoubled (take (length raw - 1) (drop 1 raw))) ≡ length (cell_of raw).content
      go [] q = absurd (omega arith)
      go (b ∷ s) q = rw (take_all (length (b ∷ s) - 1) s (omega arith), eq-eqb b DQUOTE q)

  pub content-plain : (get_or raw 0 0 ≡ DQUOTE → ⊥) → length raw ≡ length (cell_of raw).content
  unfolding cell_of
  content-plain q = go raw q
    where
      go : (raw : List ℕ) → (get_or raw 0 0 ≡ DQUOTE → ⊥) → length raw ≡ length (cell_of raw).content
      go [] q = refl
      go (b ∷ s) q = rw (ne_eqb b DQUOTE q)

  pub content-none : length raw < 1 → length raw ≡ length (cell_of raw).content
  unfolding cell_of
  content-none h = go raw h
    where
      go : (raw : List ℕ) → length raw < 1 → length raw ≡ length (cell_of raw).content
      go [] h = refl
      go (b ∷ s) h = absurd (omega arith)
