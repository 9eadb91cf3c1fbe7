-- The statement of a row: the statement sheet of one MERGE node with that label, a literal map from header to row, and
-- the row's byte range, line end left off, as span.
use Rattle.std.specs.Prelude.{ℕ, suc, List, [], ◌∷◌, map, length}
use Rattle.frame.specs.Doc.{Doc, Token}
use Rattle.rules.specs.Kinds as Kind
use Rattle.rfc4180.specs.Cells.{Cell, Row}
use Rattle.cells.specs.KindOf.{kind_of_cell}

-- a token by its kind and its value
abbrev pub token : ℕ → ℕ → Token
token k v = record { kind = k; value = v }

-- the kind of the literal that a cell is: Null, Bool, Int, Float or String
abbrev pub literal_kind : Cell → ℕ
literal_kind c = kind_of_cell c

-- the map's pairs, from name k on: for each cell the Name of its header and the cell's literal
unfoldable pub column_tokens : ℕ → List Cell → List Token
column_tokens k [] = []
column_tokens k (c ∷ cs) = token Kind.Name k ∷ token (literal_kind c) 0 ∷ column_tokens (suc k) cs

-- the Node's value, 2·names + properties flag: the label, and the map
abbrev pub label_and_map : ℕ
label_and_map = 3

-- The label is name 0 and the headers follow, their quoting undone; repeated headers stay repeated keys
abbrev pub paper_names : List ℕ → List Cell → List (List ℕ)
paper_names label header = label ∷ map (λ (h : Cell). h.content) header

-- a Statement of one Merge, whose Pattern has one Part of one Node: its start and end, its label, and the Map
unfoldable pub paper_of : List ℕ → List Cell → Row → Doc
paper_of label header r = record {
  tokens = token Kind.Statement 1 ∷ token Kind.Merge 0 ∷ token Kind.Pattern 1 ∷ token Kind.Part 1
      ∷ token Kind.Node label_and_map ∷ token Kind.Number r.start ∷ token Kind.Number r.stop ∷ token Kind.Name 0
      ∷ token Kind.Map (length r.cells) ∷ column_tokens 1 r.cells;
  names = paper_names label header;
}
