-- A row that a statement sheet can be written for.
use Rattle.std.specs.Prelude.{ℕ, ◌+◌, ◌≤◌, ◌<◌, ◌≡◌, true, List, [], length, get_or}
use Rattle.utf8.specs.Utf8.{utf8}
use Rattle.frame.specs.Limits.{max_names, max_text}
use Rattle.written.specs.Written.{text_in}
use Rattle.rfc4180.specs.Cells.{Cell, Row}
use Rattle.row_paper.specs.Paper.{paper_names}

-- it draws neither 18 nor 5 nor 19
pub record Writable (label : List ℕ) (header : List Cell) (r : Row) : Type 0 where
  -- its cells do not differ in number from the header's
  pub even : length header ≡ length r.cells
  -- label and headers are UTF-8
  pub named : (k : ℕ) → k < length (paper_names label header) → utf8 (get_or (paper_names label header) k []) ≡ true
  -- the sheet passes no limit, and the span no u32
  pub few_names : length header + 1 ≤ max_names
  pub short_text : length (text_in (paper_names label header)) ≤ max_text
  pub small_span : r.stop < 4294967296
  -- it ends no sooner than it starts, as every row of a text
  pub ordered : r.start ≤ r.stop
