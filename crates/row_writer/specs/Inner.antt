-- What the functions that write a row's sheet ask and ensure.
use Rattle.std.specs.Prelude.{ℕ, ◌+◌, ◌*◌, ◌≤◌, ◌≡◌, Bool, true, List, [], ◌∷◌, map, length, leb}
use Rattle.lists.specs.Lists.{both}
use Rattle.frame.specs.Limits.{max_names, max_text}
use Rattle.frame.specs.Doc.{Doc, Token}
use Rattle.frame.specs.declared.Sheet.{Sheet}
use Rattle.rules.specs.Kinds as Kind
use Rattle.rfc4180.specs.Cells.{Cell, Row, row_of}
use Rattle.rfc4180.specs.Grammar.{Record}
use Rattle.cells.specs.Raw.{cell_of, raw_cells}
use Rattle.written.specs.Written.{text_in}
use Rattle.row_paper.specs.Paper.{token, label_and_map, paper_of}
use Rattle.row_writer.specs.Writing.{max_number}
use Rattle.row_writer.specs.declared.Bounds.{Bounds}

-- the content of a raw cell
abbrev pub content_of : List ℕ → List ℕ
content_of raw = (cell_of raw).content

-- the cells of a row's text, and their contents
abbrev pub cells_in : List ℕ → List Cell
cells_in s = map cell_of (raw_cells s)

abbrev pub contents_in : List ℕ → List (List ℕ)
contents_in s = map content_of (raw_cells s)

-- the texts of a header and of a row with as many cells, which stands between these bounds
pub record Cut (header row : List ℕ) (place : Bounds) : Type 0 where
  pub header_read : Record header (cells_in header)
  pub headers : length (raw_cells header) ≡ place.cells
  pub cells : length (raw_cells row) ≡ place.cells
  pub ordered : place.start ≤ place.stop

-- the row, and the statement of it
abbrev pub row_in : List ℕ → Bounds → Row
row_in row place = row_of place.start place.stop (cells_in row)

abbrev pub paper_in : List ℕ → List ℕ → List ℕ → Bounds → Doc
paper_in label header row place = paper_of label (cells_in header) (row_in row place)

-- the tokens around the node, and the node's up to its columns; how many stand in front of the node, and in front of
-- the columns
abbrev pub clause_tokens : List Token
clause_tokens = token Kind.Statement 1 ∷ token Kind.Merge 0 ∷ token Kind.Pattern 1 ∷ token Kind.Part 1 ∷ []

abbrev pub node_tokens : (start stop cells : ℕ) → List Token
node_tokens start stop cells =
    token Kind.Node label_and_map ∷ token Kind.Number start ∷ token Kind.Number stop ∷ token Kind.Name 0
    ∷ token Kind.Map cells ∷ []

abbrev pub clause_size : ℕ
clause_size = 4

abbrev pub node_size : ℕ
node_size = 9

-- so many cells, a span's end, and the bytes of the label and of the headers: all keep to the limits
unfoldable pub is_within : (cells stop label headers : ℕ) → Bool
is_within cells stop label headers =
    both (leb (cells + 1) max_names) (both (leb stop max_number) (leb (label + headers) max_text))

-- the sizes of the sheet
abbrev pub sizes_by : (cells label headers : ℕ) → Sheet
sizes_by cells label headers =
    record { tokens = node_size + 2 * cells; names = 1 + cells; text = label + headers }

-- these are the sizes of the sheet, which keeps to the limits
pub record Planned (f : Sheet) (label header : List ℕ) (place : Bounds) : Type 0 where
  pub sizes : f ≡ sizes_by place.cells (length label) (length (text_in (contents_in header)))
  pub within : is_within place.cells place.stop (length label) (length (text_in (contents_in header))) ≡ true
