-- A row's text cut into its cells as they stand there, quotes and all: raw cells. And what a raw cell holds.
use Rattle.std.specs.Prelude.{ℕ, ◌+◌, List, [], ◌∷◌, Bool, false, not, eqb, length, drop}
use Rattle.lists.specs.Lists.{pick, both}
use Rattle.rfc4180.specs.Cells.{Cell, unquoted, in_quotes}
use Rattle.rfc4180.specs.Grammar.{COMMA, DQUOTE}

-- ---- where raw cells end
-- a comma outside quotes ends a cell
abbrev pub ends_cell : Bool → ℕ → Bool
ends_cell quotes b = both (not quotes) (eqb b COMMA)

-- whether it is in quotes after one more byte: each quote turns that, so doubled quotes turn it back
abbrev pub turned : Bool → ℕ → Bool
turned quotes b = pick (eqb b DQUOTE) (not quotes) quotes

-- the raw cell that a text begins with, the text itself beginning in quotes or outside
unfoldable pub first_cell : List ℕ → Bool → List ℕ
first_cell [] quotes = []
first_cell (b ∷ s) quotes = let r : List ℕ = b ∷ first_cell s (turned quotes b) in pick (ends_cell quotes b) [] r

-- the raw cells after that one, each after a comma
unfoldable pub later_cells : List ℕ → Bool → List (List ℕ)
later_cells [] quotes = []
later_cells (b ∷ s) quotes =
    let r : List (List ℕ) = later_cells s (turned quotes b) in
    let next : List (List ℕ) = first_cell s false ∷ later_cells s false in
    pick (ends_cell quotes b) next r

-- the raw cells of a row's text, of which there is at least one
abbrev pub raw_cells : List ℕ → List (List ℕ)
raw_cells s = first_cell s false ∷ later_cells s false

-- where the raw cell that begins at a place of a row ends: at its comma or at the end of the row
unfoldable pub cell_end : List ℕ → ℕ → ℕ
cell_end s at = at + length (first_cell (drop at s) false)

-- ---- what a raw cell holds
-- in quotes, so many bytes stand for one of the content: two quotes for a quote
abbrev pub width_of : ℕ → ℕ
width_of b = pick (eqb b DQUOTE) 2 1

-- what follows an opening quote, the closing quote left off and doubled quotes made single
unfoldable pub undoubled : List ℕ → List ℕ
undoubled [] = []
undoubled (b ∷ []) = []
undoubled (b ∷ d ∷ s) = b ∷ pick (eqb b DQUOTE) (undoubled s) (undoubled (d ∷ s))

-- the cell that a raw cell is
unfoldable pub cell_of : List ℕ → Cell
cell_of [] = unquoted []
cell_of (b ∷ s) = pick (eqb b DQUOTE) (in_quotes (undoubled s)) (unquoted (b ∷ s))
