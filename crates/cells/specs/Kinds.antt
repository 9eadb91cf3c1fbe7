-- The kind of value that a cell holds, as a grammar. `kinds` of the proofs says that `kind_of_cell` computes it.
use Rattle.std.specs.Prelude.{ℕ, ◌≤◌, ◌≡◌, List, [], ◌∷◌, ◌++◌, length}
use Rattle.text.specs.Text.{bytes}
use Rattle.utf8.specs.Grammar.{In}
use Rattle.rules.specs.Kinds as Kind
use Rattle.rfc4180.specs.Cells.{Cell, unquoted, in_quotes}

-- "-", ".", "0" and "9"
abbrev pub MINUS : ℕ
MINUS = 0x2d

abbrev pub POINT : ℕ
POINT = 0x2e

abbrev pub FIRST_DIGIT : ℕ
FIRST_DIGIT = 0x30

abbrev pub LAST_DIGIT : ℕ
LAST_DIGIT = 0x39

-- an Int has no more digits
abbrev pub most_digits : ℕ
most_digits = 18

-- 1*DIGIT, with DIGIT = %x30-39
pub data Digits : List ℕ → Type 0 where
  one_digit : {a : ℕ} → In FIRST_DIGIT LAST_DIGIT a → Digits (a ∷ [])
  more_digits : {a : ℕ} {s : List ℕ} → In FIRST_DIGIT LAST_DIGIT a → Digits s → Digits (a ∷ s)

-- an optional minus and 1 to 18 digits
pub data Int : List ℕ → Type 0 where
  whole : {s : List ℕ} → Digits s → length s ≤ most_digits → Int s
  minus_whole : {s : List ℕ} → Digits s → length s ≤ most_digits → Int (MINUS ∷ s)

-- digits on both sides of one point, again with optional minus
pub data Float : List ℕ → Type 0 where
  pointed : {s t : List ℕ} → Digits s → Digits t → Float (s ++ POINT ∷ t)
  minus_pointed : {s t : List ℕ} → Digits s → Digits t → Float (MINUS ∷ (s ++ POINT ∷ t))

-- An unquoted cell that is empty is Null, true or false is Bool, an optional minus and 1 to 18 digits is Int, digits on
-- both sides of one point (again with optional minus) is Float; every other cell, and every quoted one, is String
pub data HasKind : Cell → ℕ → Type 0 where
  is_null : HasKind (unquoted []) Kind.Null
  is_true : HasKind (unquoted (bytes "true")) Kind.Bool
  is_false : HasKind (unquoted (bytes "false")) Kind.Bool
  is_int : {s : List ℕ} → Int s → HasKind (unquoted s) Kind.Int
  is_float : {s : List ℕ} → Float s → HasKind (unquoted s) Kind.Float
  is_other : {s : List ℕ} → (s ≡ [] → ⊥) → (s ≡ bytes "true" → ⊥) → (s ≡ bytes "false" → ⊥) → (Int s → ⊥)
      → (Float s → ⊥) → HasKind (unquoted s) Kind.String
  within_quotes : {s : List ℕ} → HasKind (in_quotes s) Kind.String
