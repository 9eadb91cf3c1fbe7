-- What comma-separated text holds.
use Rattle.std.specs.Prelude.{ℕ, List, Bool, true, false}

-- a cell: whether it was quoted, and its content, the quoting undone
pub record Cell : Type 0 where
  pub quoted : Bool
  pub content : List ℕ

-- a cell without quotes, of a content
abbrev pub unquoted : List ℕ → Cell
unquoted c = record { quoted = false; content = c }

-- a cell in quotes, of a content
abbrev pub in_quotes : List ℕ → Cell
in_quotes c = record { quoted = true; content = c }

-- a row: the offset where it begins, the offset after its last byte, line end left off (an empty row has both alike),
-- and its cells
pub record Row : Type 0 where
  pub start : ℕ
  pub stop : ℕ
  pub cells : List Cell

-- the row from one offset up to another, with its cells
abbrev pub row_of : ℕ → ℕ → List Cell → Row
row_of a b cs = record { start = a; stop = b; cells = cs }
