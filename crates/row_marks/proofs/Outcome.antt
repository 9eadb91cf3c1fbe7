-- What the operations do over the sheet of a row's statement, for any schema bytes: the schema's refusals, and then
-- what the columns say.
use mathlib.Core.Path.{◌≡◌}
use mathlib.Core.List.{List}
use Prim.Native.Nat.{ℕ}
use Rattle.lists.specs.Lists.{nth}
use Rattle.written.specs.Written.{written}
use Rattle.grammar.specs.Tree.{tree_of}
use Rattle.schema.specs.Effect.{after_statement, after_schema}
use Rattle.provider.specs.Schema.{Schema}
use Rattle.breach.specs.Breach.{statement_in, schema_in}
use Rattle.breach.specs.Listing.{listed}
use Rattle.schema_aware.specs.Check.{items_effect, check_effect}
use Rattle.message.specs.Said.{item_effect, message_effect}
use Rattle.rfc4180.specs.Cells.{Cell, Row}
use Rattle.row_paper.specs.Paper.{paper_of}
use Rattle.row_paper.specs.Writable.{Writable}
use Rattle.row_paper.proofs.Accepted.{accepted}
use Rattle.rows.proofs.Accepted.{WrittenRow}
use Rattle.row_marks.specs.Marks.{marks_of}
use Rattle.row_marks.proofs.Marked.{marked}

module _ (label : List ℕ) (header : List Cell) (r : Row) (w : Writable label header r) where
  -- the list over the sheet is that of the statement
  pub sheet-marked : (s : Schema) → listed (statement_in (written (paper_of label header r))) s ≡ marks_of s label header r
  sheet-marked s = rw (accepted label header r w).holds (marked label header r w.even s)

  -- check_schema_aware: the schema's refusals, 14, or that list
  pub check-says : (sc list : List ℕ) → check_effect (written (paper_of label header r)) sc list
      ≡ after_schema sc (items_effect (marks_of (schema_in sc) label header r) list)
  unfolding check_effect after_statement
  check-says sc list = rw ((accepted label header r w).no_fault, sheet-marked (schema_in sc))

  -- message: the schema's refusals, 15, 16, or the message of item k of that list
  pub message-says : (sc : List ℕ) (k : ℕ) (text : List ℕ) → message_effect (written (paper_of label header r)) sc k text
      ≡ after_schema sc (item_effect (tree_of (paper_of label header r)) (schema_in sc)
      (nth (marks_of (schema_in sc) label header r) k) text)
  unfolding message_effect after_statement
  message-says sc k text =
      rw ((accepted label header r w).no_fault, sheet-marked (schema_in sc), (accepted label header r w).holds)

-- Whatever row_statement writes for a row, check_schema_aware lists over it what the columns of that row say, and
-- message writes the messages of that list: for every schema
module _ {text label : List ℕ} {k : ℕ} {out : List ℕ} {n : ℕ} {xs : List ℕ} (w : WrittenRow text label k out n xs) where
  pub row-checked : (sc list : List ℕ) → check_effect xs sc list
      ≡ after_schema sc (items_effect (marks_of (schema_in sc) label w.header.cells w.row) list)
  row-checked sc list = rw w.bytes (check-says label w.header.cells w.row w.writable sc list)

  pub row-said : (sc : List ℕ) (i : ℕ) (lent : List ℕ) → message_effect xs sc i lent
      ≡ after_schema sc (item_effect (tree_of (paper_of label w.header.cells w.row)) (schema_in sc)
      (nth (marks_of (schema_in sc) label w.header.cells w.row) i) lent)
  row-said sc i lent = rw w.bytes (message-says label w.header.cells w.row w.writable sc i lent)
