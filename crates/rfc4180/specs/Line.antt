-- The row that begins at a place of a text.
use Rattle.std.specs.Prelude.{ℕ, suc, ◌-◌, List, [], ◌∷◌, ltb, length, drop}
use Rattle.lists.specs.Lists.{pick}
use Rattle.rfc4180.specs.Csv.{Mode, fresh, plain, quotes, closing, return, stuck, Turn, pass, keep, end_cell, end_row, new_row, halt, class_of, turn_of}
use Rattle.rfc4180.specs.declared.Span.{Span}
use Rattle.rfc4180.specs.declared.Line.{Line}
use Rattle.rfc4180.specs.declared.Line.TheVariants.{Whole, End, Broken}

-- a row up to an offset, the offset of the next row, and the number of cells
abbrev pub span_of : ℕ → ℕ → ℕ → Span
span_of b next n = record { stop = b; next = next; cells = n }

-- the text ends at p, n cells of the row having ended before: the last row lacks its line end, or the text stops in
-- quotes or after a CR
unfoldable pub last_line : Mode → ℕ → ℕ → Line
last_line fresh n p = Whole (span_of p p (suc n))
last_line plain n p = Whole (span_of p p (suc n))
last_line quotes n p = Broken p
last_line closing n p = Whole (span_of p p (suc n))
last_line return n p = Broken p
last_line stuck n p = Broken p

-- what the byte at p does to a row of which n cells have ended; `go` says how the row goes on after it. A row that ends
-- with the LF at p stopped before its CR
unfoldable pub line_by : Turn → ℕ → ℕ → (Mode → ℕ → Line) → Line
line_by (pass m) n p go = go m n
line_by (keep m) n p go = go m n
line_by end_cell n p go = go fresh (suc n)
line_by end_row n p go = go return (suc n)
line_by new_row n p go = Whole (span_of (p - 1) (suc p) n)
line_by halt n p go = Broken p

-- how a row goes on in a mode, at p, n of its cells having ended, by the text from p on
unfoldable pub line_from : List ℕ → Mode → ℕ → ℕ → Line
line_from [] m n p = last_line m n p
line_from (b ∷ s) m n p = line_by (turn_of m (class_of b)) n p (λ m' n'. line_from s m' n' (suc p))

-- the row that begins at a place: its span; `End` where the text ends there or before; `Broken p` where p is the offset
-- of the first byte that no text of the grammar has after those before it, or the text's length where it stops in
-- quotes or after a CR
unfoldable pub line_at : List ℕ → ℕ → Line
line_at s a = pick (ltb a (length s)) (line_from (drop a s) fresh 0 a) End
