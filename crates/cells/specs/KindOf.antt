-- The kind of a cell, computed by tests. `kinds` of the proofs says that it is the kind of `cells/specs/Kinds.antt`.
use Rattle.std.specs.Prelude.{ℕ, List, [], ◌∷◌, Bool, leb, eqb, length}
use Rattle.lists.specs.Lists.{pick, both, all_of, is_empty}
use Rattle.text.specs.Text.{bytes, is_text}
use Rattle.rules.specs.Kinds as Kind
use Rattle.rfc4180.specs.Cells.{Cell}
use Rattle.cells.specs.Kinds.{MINUS, POINT, FIRST_DIGIT, LAST_DIGIT, most_digits}

-- DIGIT = %x30-39
abbrev pub is_digit : ℕ → Bool
is_digit b = both (leb FIRST_DIGIT b) (leb b LAST_DIGIT)

-- at least one byte, digits alone
abbrev pub is_digits : List ℕ → Bool
is_digits s = both (leb 1 (length s)) (all_of is_digit s)

-- what follows an optional minus
abbrev pub unsigned : List ℕ → List ℕ
unsigned [] = []
unsigned (b ∷ s) = pick (eqb b MINUS) s (b ∷ s)

-- what stands before the first point, and what after it
unfoldable pub before_point : List ℕ → List ℕ
before_point [] = []
before_point (b ∷ s) = let r : List ℕ = b ∷ before_point s in pick (eqb b POINT) [] r

unfoldable pub after_point : List ℕ → List ℕ
after_point [] = []
after_point (b ∷ s) = let r : List ℕ = after_point s in pick (eqb b POINT) s r

-- 1 to 18 digits
abbrev pub is_whole : List ℕ → Bool
is_whole u = both (is_digits u) (leb (length u) most_digits)

-- digits on both sides of one point
abbrev pub is_pointed : List ℕ → Bool
is_pointed u = both (is_digits (before_point u)) (is_digits (after_point u))

-- the kind of so many digits without a point: a String where they are too many for an Int
abbrev pub whole_kind : ℕ → ℕ
whole_kind many = pick (leb many most_digits) Kind.Int Kind.String

-- the kind of a text that is neither empty nor true nor false, by what follows its optional minus
unfoldable pub number_kind : List ℕ → ℕ
number_kind u = pick (is_whole u) Kind.Int (pick (is_pointed u) Kind.Float Kind.String)

-- true and false
abbrev pub bools : List (List ℕ)
bools = bytes "true" ∷ bytes "false" ∷ []

-- the kind of a cell
unfoldable pub kind_of_cell : Cell → ℕ
kind_of_cell c =
    pick c.quoted Kind.String
    (pick (is_empty c.content) Kind.Null
    (pick (is_text bools c.content) Kind.Bool
    (number_kind (unsigned c.content))))
