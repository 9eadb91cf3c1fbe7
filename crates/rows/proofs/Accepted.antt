-- What is written for a row is always accepted: `written_row`.
use mathlib.Core.Path.{◌≡◌, ◌∙◌, refl, sym, ap}
use mathlib.Core.List.{List, [], ◌∷◌}
use mathlib.Core.Bool.{Bool, true, false}
use Prim.Native.Nat.{ℕ, zero, suc, ◌≤◌, ◌<◌}
use native.Mathlib.Omega.{arith}
use lib.ListN.{length, get_or}
use lib.Dec.{eqb, leb}
use borrow.Author.Tests.{eqb-true, leb-true}
use Rattle.lists.specs.Lists.{pick, both, nth}
use Rattle.lists.proofs.Tests.{both_true}
use Rattle.utf8.specs.Utf8.{utf8}
use Rattle.frame.specs.Limits.{max_tokens, max_names, max_text}
use Rattle.frame.specs.Doc.{Doc, doc_of}
use Rattle.frame.specs.declared.Fault.{Fault}
use Rattle.schema.specs.Declarations.{statement_fault}
use Rattle.schema.specs.Effect.{refusal, writes, answer_of, unless_refused, read_statement, fitted}
use Rattle.schema.proofs.Effects.{writes_nothing, fitted-wrote, read-accepted}
use Rattle.written.specs.Written.{text_in, written, within_limits}
use Rattle.rfc4180.specs.Cells.{Cell, Row}
use Rattle.rfc4180.specs.Csv.{rows_of}
use Rattle.row_paper.specs.Paper.{paper_names, paper_of}
use Rattle.row_paper.specs.Writable.{Writable}
use Rattle.row_paper.proofs.Accepted.{names-length, accepted}
use Rattle.row_writer.specs.Writing.{max_number, next_number, name_fault_of, paper_effect}
use Rattle.rows.specs.Rows.{row_effect, rows_effect, unless_broken, row_statement}
use Rattle.rows.proofs.Rowed.{nth-spanned}
use Rattle.std.specs.Prelude.{Some, None, Ok}
use Rattle.frame.specs.Sheet.{fault}
use Rattle.std.specs.Prelude.{Option}

first_fine : (t : Bool) (x : Option Fault) (k : ℕ) → pick t x (Some (fault 5 k)) ≡ None → (t ≡ true) × (x ≡ None)
first_fine true x k e = (refl, e)
first_fine false x k e = absurd (let z : ◌≡◌ {A = ℕ} 0 1 = cc in omega arith)

-- no fault: every name is UTF-8
names-fine : (ns : List (List ℕ)) (k : ℕ) → name_fault_of k ns ≡ None → (i : ℕ) → i < length ns
    → utf8 (get_or ns i []) ≡ true
unfolding name_fault_of
names-fine [] k e i h = absurd (omega arith)
names-fine (n ∷ ns) k e zero h = (first_fine (utf8 n) (name_fault_of (next_number k) ns) k e).0
names-fine (n ∷ ns) k e (suc i) h =
    names-fine ns (next_number k) (first_fine (utf8 n) (name_fault_of (next_number k) ns) k e).1 i (omega arith)

-- what is known of a document whose bytes were written
record Kept (d : Doc) (stop : ℕ) (out : List ℕ) (n : ℕ) (xs : List ℕ) : Type 0 where
  pub fine : name_fault_of 0 d.names ≡ None
  pub within : within_limits d ≡ true
  pub small : stop ≤ max_number
  pub bytes : xs ≡ written d
  pub count : n ≡ length xs
  pub room : length xs ≤ length out

paper-kept : (d : Doc) (stop : ℕ) (out : List ℕ) (n : ℕ) (xs : List ℕ) → paper_effect d stop out ≡ writes n xs
    → Kept d stop out n xs
unfolding paper_effect
paper-kept d stop out n xs e = unfaulted (name_fault_of 0 d.names) refl e
  where
    ys : List ℕ
    ys = written d

    limited : name_fault_of 0 d.names ≡ None → (t : Bool) → both (within_limits d) (leb stop max_number) ≡ t
        → pick t (fitted (length ys) ys out) (refusal 19 0 0) ≡ writes n xs → Kept d stop out n xs
    limited f true w e =
        let b = both_true (within_limits d) (leb stop max_number) w in
        let r = fitted-wrote (length ys) ys out n xs e in
        record {
          fine = f;
          within = b.0;
          small = leb-true stop max_number b.1;
          bytes = sym r.0;
          count = sym r.1 ∙ ap length r.0;
          room = rw r.0 at r.2;
        }
    limited f false w e = writes_nothing e

    unfaulted : (x : Option Fault) → name_fault_of 0 d.names ≡ x
        → unless_refused 1 x (pick (both (within_limits d) (leb stop max_number)) (fitted (length ys) ys out)
        (refusal 19 0 0)) ≡ writes n xs → Kept d stop out n xs
    unfaulted None f e = limited f (both (within_limits d) (leb stop max_number)) refl e
    unfaulted (Some u) f e = writes_nothing e

-- ---- the row that a sheet was written for
pub record WrittenRow (text label : List ℕ) (k : ℕ) (out : List ℕ) (n : ℕ) (xs : List ℕ) : Type 0 where
  -- the text keeps to RFC 4180, and this is its row k behind the header
  pub header : Row
  pub rows : List Row
  pub row : Row
  pub read : rows_of text ≡ Some (header ∷ rows)
  pub at : nth rows k ≡ Some row
  -- a statement of it can be written, and these are its bytes and their number, for which there was room
  pub writable : Writable label header.cells row
  pub bytes : xs ≡ written (paper_of label header.cells row)
  pub count : n ≡ length xs
  pub room : length xs ≤ length out
  -- the sheet is accepted, and holds the statement
  pub no_fault : statement_fault xs ≡ None
  pub reads : answer_of (read_statement xs) ≡ Ok 0
  pub holds : doc_of xs ≡ paper_of label header.cells row

module _ (label : List ℕ) (header : List Cell) (r : Row) where
  kept-writable : {out xs : List ℕ} {n : ℕ} → Kept (paper_of label header r) r.stop out n xs
      → eqb (length r.cells) (length header) ≡ true → r.start ≤ r.stop → Writable label header r
  unfolding paper_of
  kept-writable w e h =
      let ns = paper_names label header in
      let d = paper_of label header r in
      let a = both_true (leb (length d.tokens) max_tokens)
      (both (leb (length ns) max_names) (leb (length (text_in ns)) max_text)) w.within in
      let b = both_true (leb (length ns) max_names) (leb (length (text_in ns)) max_text) a.1 in
      record {
        even = sym (eqb-true (length r.cells) (length header) e);
        named = names-fine ns 0 w.fine;
        few_names = omega (arith, leb-true (length ns) max_names b.0, names-length label header r);
        short_text = leb-true (length (text_in ns)) max_text b.1;
        small_span = omega (arith, w.small);
        ordered = h;
      }

-- The sheet written is always accepted: whatever row_statement writes is the sheet of the row's statement, and
-- read_statement accepts it
pub written_row : (text label : List ℕ) (k : ℕ) (out : List ℕ) (n : ℕ) (xs : List ℕ)
    → row_statement text label k out ≡ writes n xs → WrittenRow text label k out n xs
unfolding row_statement rows_effect row_effect nth
written_row text label k out n xs e = unbroken (rows_of text) refl e
  where
    even : (h : Row) (rows : List Row) → rows_of text ≡ Some (h ∷ rows) → (r : Row) → nth rows k ≡ Some r → (t : Bool)
        → eqb (length r.cells) (length h.cells) ≡ t
        → pick t (paper_effect (paper_of label h.cells r) r.stop out) (refusal 18 0 0) ≡ writes n xs
        → WrittenRow text label k out n xs
    even h rows f r g true u e =
        let w = paper-kept (paper_of label h.cells r) r.stop out n xs e in
        let s = nth-spanned text (h ∷ rows) (suc k) f g in
        let v = kept-writable label h.cells r w u s.ordered in
        let a = accepted label h.cells r v in
        let z : statement_fault xs ≡ None = rw w.bytes a.no_fault in
        record {
          header = h;
          rows = rows;
          row = r;
          read = f;
          at = g;
          writable = v;
          bytes = w.bytes;
          count = w.count;
          room = w.room;
          no_fault = z;
          reads = read-accepted xs z;
          holds = rw w.bytes a.holds;
        }
    even h rows f r g false u e = writes_nothing e

    there : (h : Row) (rows : List Row) → rows_of text ≡ Some (h ∷ rows) → (o : Option Row) → nth rows k ≡ o
        → row_effect label h.cells o out ≡ writes n xs → WrittenRow text label k out n xs
    there h rows f None g e = writes_nothing e
    there h rows f (Some r) g e = even h rows f r g (eqb (length r.cells) (length h.cells)) refl e

    headed : (rows : List Row) → rows_of text ≡ Some rows → rows_effect label k rows out ≡ writes n xs
        → WrittenRow text label k out n xs
    headed [] f e = writes_nothing e
    headed (h ∷ rows) f e = there h rows f (nth rows k) refl e

    unbroken : (o : Option (List Row)) → rows_of text ≡ o
        → unless_broken o (λ rows. rows_effect label k rows out) ≡ writes n xs → WrittenRow text label k out n xs
    unbroken None f e = writes_nothing e
    unbroken (Some rows) f e = headed rows f e
