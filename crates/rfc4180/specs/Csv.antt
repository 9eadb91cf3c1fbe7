-- The rows of comma-separated text, one byte after the other.
use Rattle.std.specs.Prelude.{ℕ, suc, List, [], ◌∷◌, ◌++◌, Bool, leb, eqb}
use Rattle.lists.specs.Lists.{pick, both, either}
use Rattle.rfc4180.specs.Cells.{Cell, unquoted, in_quotes, Row, row_of}
use Rattle.std.specs.Prelude.{Option, Some, None}

-- what a byte is to the grammar: a quote, a comma, a CR, an LF, TEXTDATA, or a byte that stands nowhere
pub data Class : Type 0 where
  dquote comma cr lf text other : Class

-- 20 to 7E, of which quote and comma are told apart before, and 80 to FF
abbrev pub is_textdata : ℕ → Bool
is_textdata b = either (both (leb 0x20 b) (leb b 0x7e)) (both (leb 0x80 b) (leb b 0xff))

-- the class of a byte
unfoldable pub class_of : ℕ → Class
class_of b =
    pick (eqb b 0x22) dquote
    (pick (eqb b 0x2c) comma
    (pick (eqb b 0x0d) cr
    (pick (eqb b 0x0a) lf
    (pick (is_textdata b) text
    other))))

-- where the reading stands: before a cell, in one without quotes, in quotes, after a quote in quotes, after the CR of a
-- line end; or the text has broken the grammar
pub data Mode : Type 0 where
  fresh plain quotes closing return stuck : Mode

-- the reading so far
pub record State : Type 0 where
  pub mode : Mode
  pub start : ℕ  -- the offset of the row's first byte
  pub next : ℕ  -- the offset of the next byte
  pub content : List ℕ  -- the cell's content so far
  pub cells : List Cell  -- the row's cells so far
  pub rows : List Row  -- the rows so far

-- a state by its parts
abbrev pub state_of : Mode → ℕ → ℕ → List ℕ → List Cell → List Row → State
state_of m a n c cs rs = record { mode = m; start = a; next = n; content = c; cells = cs; rows = rs }

-- the cell that ends here
abbrev pub ended : Mode → List ℕ → Cell
ended fresh c = unquoted c
ended plain c = unquoted c
ended quotes c = in_quotes c
ended closing c = in_quotes c
ended return c = unquoted c
ended stuck c = unquoted c

-- the row that ends here
abbrev pub whole_row : State → Row
whole_row st = row_of st.start st.next (st.cells ++ ended st.mode st.content ∷ [])

-- what a byte does: only the mode changes; the byte is content; a cell ends; a cell and its row end; a row begins; the
-- grammar is broken
pub data Turn : Type 0 where
  pass keep : Mode → Turn
  end_cell end_row new_row halt : Turn

-- what a byte of a class does in a mode
unfoldable pub turn_of : Mode → Class → Turn
turn_of fresh dquote = pass quotes
turn_of fresh comma = end_cell
turn_of fresh cr = end_row
turn_of fresh lf = halt
turn_of fresh text = keep plain
turn_of fresh other = halt
turn_of plain dquote = halt
turn_of plain comma = end_cell
turn_of plain cr = end_row
turn_of plain lf = halt
turn_of plain text = keep plain
turn_of plain other = halt
turn_of quotes dquote = pass closing
turn_of quotes comma = keep quotes
turn_of quotes cr = keep quotes
turn_of quotes lf = keep quotes
turn_of quotes text = keep quotes
turn_of quotes other = halt
turn_of closing dquote = keep quotes
turn_of closing comma = end_cell
turn_of closing cr = end_row
turn_of closing lf = halt
turn_of closing text = halt
turn_of closing other = halt
turn_of return dquote = halt
turn_of return comma = halt
turn_of return cr = halt
turn_of return lf = new_row
turn_of return text = halt
turn_of return other = halt
turn_of stuck k = halt

-- the state after a byte and what it does. A row is told at its CR, so that its line end is left off
unfoldable pub apply : Turn → ℕ → State → State
apply (pass m) b st = state_of m st.start (suc st.next) st.content st.cells st.rows
apply (keep m) b st = state_of m st.start (suc st.next) (st.content ++ b ∷ []) st.cells st.rows
apply end_cell b st = state_of fresh st.start (suc st.next) [] (st.cells ++ ended st.mode st.content ∷ [])
    st.rows
apply end_row b st = state_of return st.start (suc st.next) [] [] (st.rows ++ whole_row st ∷ [])
apply new_row b st = state_of fresh (suc st.next) (suc st.next) [] [] st.rows
apply halt b st = state_of stuck st.start (suc st.next) st.content st.cells st.rows

-- the state after one more byte, of a class in a mode
abbrev pub step_by : Mode → Class → ℕ → State → State
step_by m k b st = apply (turn_of m k) b st

-- the state after one more byte
unfoldable pub step_of : State → ℕ → State
step_of st b = step_by st.mode (class_of b) b st

-- the state after a text
unfoldable pub runs : State → List ℕ → State
runs st [] = st
runs st (b ∷ s) = runs (step_of st b) s

-- the rows where the text ends: a last line of at least one byte is one more
unfoldable pub finish : Mode → State → Option (List Row)
finish fresh st = Some (pick (eqb st.next st.start) st.rows (st.rows ++ whole_row st ∷ []))
finish plain st = Some (pick (eqb st.next st.start) st.rows (st.rows ++ whole_row st ∷ []))
finish quotes st = None
finish closing st = Some (pick (eqb st.next st.start) st.rows (st.rows ++ whole_row st ∷ []))
finish return st = None
finish stuck st = None

-- the rows where the text ends in a state
unfoldable pub rows_at : State → Option (List Row)
rows_at st = finish st.mode st

-- where the reading of a text begins, at an offset and after the rows before it
abbrev pub begin : ℕ → List Row → State
begin a rs = state_of fresh a a [] [] rs

-- the rows of a text that begins at an offset, none where it breaks RFC 4180
unfoldable pub rows_from : ℕ → List ℕ → Option (List Row)
rows_from a s = rows_at (runs (begin a []) s)

-- the rows of a text
abbrev pub rows_of : List ℕ → Option (List Row)
rows_of s = rows_from 0 s

-- a row before the rows of what follows it; none where that has none
abbrev pub prepend : Row → Option (List Row) → Option (List Row)
prepend r None = None
prepend r (Some rs) = Some (r ∷ rs)
