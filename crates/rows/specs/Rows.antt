-- The operation `row_statement`: for any text, label, row number and lent buffer, the answer, and what then stands in
-- the buffer.
use Rattle.std.specs.Prelude.{ℕ, List, [], ◌∷◌, length, eqb}
use Rattle.lists.specs.Lists.{pick, nth}
use Rattle.schema.specs.Effect.{Effect, refusal}
use Rattle.rfc4180.specs.Cells.{Cell, Row}
use Rattle.rfc4180.specs.Csv.{rows_of}
use Rattle.row_paper.specs.Paper.{paper_of}
use Rattle.row_writer.specs.Writing.{paper_effect}
use Rattle.std.specs.Prelude.{Option, Some, None}

-- 18 when there is no such row or its cells differ in number from the header's
unfoldable pub row_effect : List ℕ → List Cell → Option Row → List ℕ → Effect
row_effect label header None out = refusal 18 0 0
row_effect label header (Some r) out =
    pick (eqb (length r.cells) (length header)) (paper_effect (paper_of label header r) r.stop out) (refusal 18 0 0)

-- the first row is the header, row 0 the next; an empty text has no row
unfoldable pub rows_effect : List ℕ → ℕ → List Row → List ℕ → Effect
rows_effect label k [] out = refusal 18 0 0
rows_effect label k (header ∷ rows) out = row_effect label header.cells (nth rows k) out

-- 17 when the text breaks RFC 4180
abbrev pub unless_broken : Option (List Row) → (List Row → Effect) → Effect
unless_broken None next = refusal 17 0 0
unless_broken (Some rows) next = next rows

-- row_statement: 17, 18, 5, 19, 16, in that order; the answer is the number of bytes written
unfoldable pub row_statement : List ℕ → List ℕ → ℕ → List ℕ → Effect
row_statement text label k out = unless_broken (rows_of text) (λ rows. rows_effect label k rows out)
