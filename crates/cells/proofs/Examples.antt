-- Cells at the edges, computed by the definitions.
use Prim.Native.Nat.{ℕ}
use Prim.Native.String.{String}
use mathlib.Core.Path.{◌≡◌, refl}
use mathlib.Core.Bool.{true}
use mathlib.Core.List.{List, [], ◌∷◌, map}
use lib.Dec.{eqb}
use Rattle.lists.specs.Lists.{all_of, any_of}
use Rattle.text.specs.Text.{bytes, same_text}
use Rattle.rules.specs.Kinds as Kind
use Rattle.rfc4180.specs.Cells.{unquoted, in_quotes}
use Rattle.cells.specs.KindOf.{before_point, after_point, number_kind, kind_of_cell}
use Rattle.cells.specs.Raw.{first_cell, later_cells, raw_cells, cell_end, undoubled, cell_of}

-- ---- kinds: each of these raw cells is of the kind
abbrev AllAre : ℕ → List String → Type 0
AllAre k ts = all_of (λ t. eqb (kind_of_cell (cell_of (bytes t))) k) ts ≡ true

nulls : AllAre Kind.Null ("" ∷ [])
unfolding kind_of_cell number_kind before_point after_point cell_of undoubled all_of any_of same_text bytes
nulls = refl

bool-cells : AllAre Kind.Bool ("true" ∷ "false" ∷ [])
unfolding kind_of_cell number_kind before_point after_point cell_of undoubled all_of any_of same_text bytes
bool-cells = refl

ints : AllAre Kind.Int ("7" ∷ "007" ∷ "-0" ∷ "123456789012345678" ∷ "-123456789012345678" ∷ [])
unfolding kind_of_cell number_kind before_point after_point cell_of undoubled all_of any_of same_text bytes
ints = refl

floats : AllAre Kind.Float ("1.5" ∷ "-1.5" ∷ "12345678901234567890.0" ∷ "-0.00" ∷ [])
unfolding kind_of_cell number_kind before_point after_point cell_of undoubled all_of any_of same_text bytes
floats = refl

-- too many digits; no digits; two signs or another sign; a byte that belongs to no number
no-ints : AllAre Kind.String
    ("1234567890123456789" ∷ "-1234567890123456789" ∷ "-" ∷ "--1" ∷ "+1" ∷ " 1" ∷ "1 " ∷ "1-2" ∷ [])
unfolding kind_of_cell number_kind before_point after_point cell_of undoubled all_of any_of same_text bytes
no-ints = refl

-- no digit on one side of the point, or on both; two points; a minus after the point; an exponent
no_floats : AllAre Kind.String ("1." ∷ ".5" ∷ "." ∷ "-.5" ∷ "-1." ∷ "1.2.3" ∷ "1..2" ∷ "1.-5" ∷ "1e3" ∷ "1.5e3" ∷ [])
unfolding kind_of_cell number_kind before_point after_point cell_of undoubled all_of any_of same_text bytes
no_floats = refl

no_bools : AllAre Kind.String ("True" ∷ "TRUE" ∷ "true " ∷ " true" ∷ "tru" ∷ "falsey" ∷ "-true" ∷ [])
unfolding kind_of_cell number_kind before_point after_point cell_of undoubled all_of any_of same_text bytes
no_bools = refl

quoted-cells : AllAre Kind.String ("\"\"" ∷ "\"true\"" ∷ "\"1\"" ∷ "\"1.5\"" ∷ "\"a\"\"b\"" ∷ [])
unfolding kind_of_cell number_kind before_point after_point cell_of undoubled all_of any_of same_text bytes
quoted-cells = refl

-- ---- contents
plain_cell : cell_of (bytes "a b") ≡ unquoted (bytes "a b")
unfolding cell_of bytes
plain_cell = refl

quoted-nothing : cell_of (bytes "\"\"") ≡ in_quotes []
unfolding cell_of undoubled bytes
quoted-nothing = refl

quoted-comma : cell_of (bytes "\"a,b\"") ≡ in_quotes (bytes "a,b")
unfolding cell_of undoubled bytes
quoted-comma = refl

doubled-quotes : cell_of (bytes "\"\"\"a\"\"\"\"b\"") ≡ in_quotes (bytes "\"a\"\"b")
unfolding cell_of undoubled bytes
doubled-quotes = refl

-- ---- a row cut into its cells
no_text : raw_cells (bytes "") ≡ [] ∷ []
unfolding first_cell later_cells bytes
no_text = refl

lone-comma : raw_cells (bytes ",") ≡ [] ∷ [] ∷ []
unfolding first_cell later_cells bytes
lone-comma = refl

commas : raw_cells (bytes "a,\"b,c\",,\"\"\",\"") ≡ map bytes ("a" ∷ "\"b,c\"" ∷ "" ∷ "\"\"\",\"" ∷ [])
unfolding first_cell later_cells bytes
commas = refl

-- the end of a cell: at its comma, at the row's end, and where nothing begins
ends : map (cell_end (bytes "a,\"b,c\",d")) (0 ∷ 1 ∷ 2 ∷ 8 ∷ 9 ∷ 12 ∷ []) ≡ 1 ∷ 1 ∷ 7 ∷ 9 ∷ 9 ∷ 12 ∷ []
unfolding cell_end first_cell bytes
ends = refl
