-- A row and its header cut out of a text, each with its line end: `moved`.
use mathlib.Core.Path.{◌≡◌, ◌∙◌, refl, sym}
use mathlib.Core.List.{List, [], ◌∷◌, ◌++◌}
use mathlib.Core.Bool.{Bool, true, false}
use mathlib.Core.Logic.{◌⊎◌, inl, inr}
use Prim.Native.Nat.{ℕ, zero, suc, ◌+◌, ◌-◌, ◌≤◌, ◌<◌}
use native.Mathlib.Omega.{arith}
use lib.Dec.{eqb, leb}
use lib.ListN.{length, length-append, length-take, length-drop}
use borrow.Author.Tests.{leb-true, leb-false}
use Rattle.lists.specs.Lists.{pick, both, nth}
use Rattle.frame.specs.declared.Fault.{Fault}
use Rattle.schema.specs.Effect.{Effect, refusal, writes, unless_refused, fitted}
use Rattle.written.specs.Written.{written, within_limits}
use Rattle.written.proofs.Bytes.{written-length}
use Rattle.rfc4180.specs.Cells.{Cell, Row, row_of}
use Rattle.rfc4180.specs.Grammar.{CRLF, File, no_row, last_row, row_crlf}
use Rattle.rfc4180.specs.Csv.{rows_of}
use Rattle.rfc4180.proofs.Agree.{agree, cut_out_lem}
use Rattle.rfc4180.proofs.Spans.{Spanned}
use Rattle.row_paper.specs.Paper.{paper_names, paper_of}
use Rattle.row_writer.specs.Writing.{max_number, name_fault_of, paper_effect}
use Rattle.rows.specs.Rows.{row_effect, row_statement}
use Rattle.rows.specs.Inner.{bounds_of, bytes_in}
use Rattle.rows.proofs.Rowed.{nth-spanned}
use Rattle.rows.proofs.Answers.{rows-effect}
use Rattle.std.specs.Prelude.{Option, Some, None}
use Rattle.frame.specs.Sheet.{fault}

-- a row's bytes; header and row by themselves
abbrev pub row_bytes : List ℕ → Row → List ℕ
row_bytes text r = bytes_in text (bounds_of r)

abbrev pub cut_out : List ℕ → Row → Row → List ℕ
cut_out text header r = row_bytes text header ++ CRLF ++ row_bytes text r ++ CRLF

-- the row there: it stands behind the header and its line end
abbrev pub moved_to : ℕ → List ℕ → Row → Row
moved_to from text r = row_of from (from + length (row_bytes text r)) r.cells

abbrev pub moved_row : List ℕ → Row → Row → Row
moved_row text header r = moved_to (length (row_bytes text header) + 2) text r

-- of two rows, only the first one's span passes a u32
abbrev pub OnlyFirstPast : Row → Row → Type 0
OnlyFirstPast r m = (max_number < r.stop) × (m.stop ≤ max_number)

-- ---- two rows with the same cells, of which the other stands no later
-- what is done for a row r beside what is done for a row m
pub data Beside (label : List ℕ) (header : List Cell) (r m : Row) (out : List ℕ) : Effect → Effect → Type 0 where
  -- both are refused, with the same number, sheet and place
  both_refused : (n s p : ℕ) → Beside label header r m out (refusal n s p) (refusal n s p)
  -- both are written, in as many bytes, each as the sheet of its row's statement
  both_written : (n : ℕ) → Beside label header r m out (writes n (written (paper_of label header r)))
      (writes n (written (paper_of label header m)))
  -- only the span of r passes a u32, which is 19: m is written, or there is no room for it, which is 16
  only_past : OnlyFirstPast r m → Beside label header r m out (refusal 19 0 0)
      (fitted (length (written (paper_of label header m))) (written (paper_of label header m)) out)

module _ (label : List ℕ) (header : List Cell) (r : Row) (a b : ℕ) (out : List ℕ) (h : b ≤ r.stop) where
  abbrev earlier : Row
  earlier = row_of a b r.cells

  -- the bytes of the two sheets, which are as many
  abbrev xs : List ℕ
  xs = written (paper_of label header r)

  abbrev ys : List ℕ
  ys = written (paper_of label header earlier)

  abbrev Aside : Effect → Effect → Type 0
  Aside x y = Beside label header r earlier out x y

  same_length : length xs ≡ length ys
  unfolding paper_of
  same_length = written-length (paper_of label header r) ∙ sym (written-length (paper_of label header earlier))

  aside-fitted : Aside (fitted (length xs) xs out) (fitted (length ys) ys out)
  unfolding fitted
  aside-fitted = rw same_length (go (leb (length ys) (length out)))
    where
      go : (t : Bool) → Aside (pick t (writes (length ys) xs) (refusal 16 0 0))
          (pick t (writes (length ys) ys) (refusal 16 0 0))
      go true = both_written (length ys)
      go false = both_refused 16 0 0

  aside-limits : (v t u : Bool) → leb r.stop max_number ≡ t → leb b max_number ≡ u
      → Aside (pick (both v t) (fitted (length xs) xs out) (refusal 19 0 0))
      (pick (both v u) (fitted (length ys) ys out) (refusal 19 0 0))
  aside-limits false t u e f = both_refused 19 0 0
  aside-limits true true true e f = aside-fitted
  aside-limits true true false e f =
      absurd (omega (arith, leb-true r.stop max_number e, leb-false b max_number f))
  aside-limits true false true e f = only_past (leb-false r.stop max_number e, leb-true b max_number f)
  aside-limits true false false e f = both_refused 19 0 0

  aside-named : (x : Option Fault) {y z : Effect} → Aside y z → Aside (unless_refused 1 x y) (unless_refused 1 x z)
  aside-named None k = k
  aside-named (Some u) k = both_refused u.number 1 u.place

  aside-paper : Aside (paper_effect (paper_of label header r) r.stop out)
      (paper_effect (paper_of label header earlier) b out)
  unfolding paper_effect paper_of
  aside-paper = aside-named (name_fault_of 0 (paper_names label header))
      (aside-limits (within_limits (paper_of label header r)) (leb r.stop max_number) (leb b max_number) refl refl)

  aside-row : Aside (row_effect label header (Some r) out) (row_effect label header (Some earlier) out)
  unfolding row_effect
  aside-row = go (eqb (length r.cells) (length header))
    where
      go : (t : Bool) → Aside (pick t (paper_effect (paper_of label header r) r.stop out) (refusal 18 0 0))
          (pick t (paper_effect (paper_of label header earlier) b out) (refusal 18 0 0))
      go true = aside-paper
      go false = both_refused 18 0 0

module _ {label : List ℕ} {header : List Cell} {r m : Row} {out : List ℕ} where
  beside-writes : {x y : Effect} → Beside label header r m out x y → (n : ℕ) (zs : List ℕ) → x ≡ writes n zs
      → y ≡ writes n (written (paper_of label header m))
  beside-writes (both_refused i s p) n zs e = absurd (let z : ◌≡◌ {A = ℕ} 0 1 = cc in omega arith)
  beside-writes (both_written i) n zs e = let f : i ≡ n = cc in rw f
  beside-writes (only_past g) n zs e = absurd (let z : ◌≡◌ {A = ℕ} 0 1 = cc in omega arith)

  beside-refused : {x y : Effect} → Beside label header r m out x y → (n s p : ℕ) → x ≡ refusal n s p
      → (y ≡ refusal n s p) ⊎ ((n ≡ 19) × OnlyFirstPast r m)
  beside-refused (both_refused i t q) n s p e = inl e
  beside-refused (both_written i) n s p e = absurd (let z : ◌≡◌ {A = ℕ} 0 1 = cc in omega arith)
  beside-refused (only_past g) n s p e = let f : n ≡ 19 = cc in inr (f, g)

  refused-beside : {x y : Effect} → Beside label header r m out x y → (n s p : ℕ) → y ≡ refusal n s p
      → (x ≡ refusal n s p) ⊎ ((x ≡ refusal 19 0 0) × (n ≡ 16) × OnlyFirstPast r m)
  unfolding fitted
  refused-beside (both_refused i t q) n s p e = inl e
  refused-beside (both_written i) n s p e = absurd (let z : ◌≡◌ {A = ℕ} 0 1 = cc in omega arith)
  refused-beside (only_past g) n s p e =
      let ws = written (paper_of label header m) in
      inr (refl, go (leb (length ws) (length out)) ws e, g)
    where
      go : (t : Bool) (ws : List ℕ) → pick t (writes (length ws) ws) (refusal 16 0 0) ≡ refusal n s p → n ≡ 16
      go true ws e = absurd (let z : ◌≡◌ {A = ℕ} 0 1 = cc in omega arith)
      go false ws e = cc

-- ---- the rows behind the header
begins : {a : ℕ} {s : List ℕ} {rs : List Row} → File a s rs → (k : ℕ) {r : Row} → nth rs k ≡ Some r → a ≤ r.start
unfolding nth
begins no_row k e = absurd (let z : ◌≡◌ {A = ℕ} 0 1 = cc in omega arith)
begins (last_row {a = a} {b = b} {s = s} {cs = cs} h) zero {r} e =
    let f : r ≡ row_of a (a + length (b ∷ s)) cs = cc in rw f (omega arith)
begins (last_row h) (suc k) e = absurd (let z : ◌≡◌ {A = ℕ} 0 1 = cc in omega arith)
begins (row_crlf {a = a} {s = s} {cs = cs} h f) zero {r} e =
    let g : r ≡ row_of a (a + length s) cs = cc in rw g (omega arith)
begins (row_crlf h f) (suc k) e = omega (arith, begins f k e)

-- a row behind the header begins behind the header's line end
behind-header : {a : ℕ} {s : List ℕ} {header : Row} {rows : List Row} → File a s (header ∷ rows) → (k : ℕ) {r : Row}
    → nth rows k ≡ Some r → header.stop + 2 ≤ r.start
unfolding nth
behind-header (last_row h) k e = absurd (let z : ◌≡◌ {A = ℕ} 0 1 = cc in omega arith)
behind-header (row_crlf {s = s} h f) k e = omega (arith, begins f k e, length-append s CRLF)

-- row_statement of the two cut out is what it is of the whole text, the span moved to where the row stands there
pub record Moved (text label : List ℕ) (k : ℕ) (out : List ℕ) (header r : Row) : Type 0 where
  pub whole : row_statement text label k out ≡ row_effect label header.cells (Some r) out
  pub alone : row_statement (cut_out text header r) label 0 out
      ≡ row_effect label header.cells (Some (moved_row text header r)) out
  -- the span is as wide, and stands no later
  pub width : (moved_row text header r).stop - (moved_row text header r).start ≡ r.stop - r.start
  pub start_no_later : (moved_row text header r).start ≤ r.start
  pub stop_no_later : (moved_row text header r).stop ≤ r.stop
  -- what the one does beside what the other does
  pub side_by_side : Beside label header.cells r (moved_row text header r) out (row_statement text label k out)
      (row_statement (cut_out text header r) label 0 out)
  -- where the whole text's is written, so is the other, in as many bytes
  pub written_alone : (n : ℕ) (xs : List ℕ) → row_statement text label k out ≡ writes n xs
      → row_statement (cut_out text header r) label 0 out
      ≡ writes n (written (paper_of label header.cells (moved_row text header r)))
  -- where the whole text's is refused, so is the other, but for 19 where only the whole text's span passes a u32
  pub refused_alone : (n s p : ℕ) → row_statement text label k out ≡ refusal n s p
      → (row_statement (cut_out text header r) label 0 out ≡ refusal n s p)
      ⊎ ((n ≡ 19) × OnlyFirstPast r (moved_row text header r))
  -- where the two cut out are refused, so is the whole text; where only its span passes a u32, with 19 before 16
  pub refused_whole : (n s p : ℕ) → row_statement (cut_out text header r) label 0 out ≡ refusal n s p
      → (row_statement text label k out ≡ refusal n s p)
      ⊎ ((row_statement text label k out ≡ refusal 19 0 0) × (n ≡ 16) × OnlyFirstPast r (moved_row text header r))

bytes-length : (text : List ℕ) (r : Row) → Spanned text r → length (row_bytes text r) ≡ r.stop - r.start
bytes-length text r s = simp (length-take, length-drop) (omega (arith, s.ordered, s.inside))

-- A row does not depend on the others: of header and row cut out of a text, row_statement does what it does of the
-- whole text, but for the span, which is as wide and begins where the row stands there, and for 19 where only the whole
-- text's span passes a u32
pub moved : (text label : List ℕ) (k : ℕ) (out : List ℕ) (header : Row) (rows : List Row) (r : Row)
    → rows_of text ≡ Some (header ∷ rows) → nth rows k ≡ Some r → Moved text label k out header r
unfolding nth
moved text label k out header rows r e f =
    let s = nth-spanned text (header ∷ rows) 0 e refl in
    let t = nth-spanned text (header ∷ rows) (suc k) e f in
    let m = moved_row text header r in
    let i = bytes-length text header s in
    let j = bytes-length text r t in
    let b = behind-header ((agree text (header ∷ rows)).0 e) k f in
    let first = row_of 0 (length (row_bytes text header)) header.cells in
    let whole : row_statement text label k out ≡ row_effect label header.cells (Some r) out
    = rows-effect text label k out header rows e ∙ rw f in
    let alone : row_statement (cut_out text header r) label 0 out ≡ row_effect label header.cells (Some m) out
    = rows-effect (cut_out text header r) label 0 out first (m ∷ []) (cut_out_lem s.holds t.holds) in
    let l : m.stop ≤ r.stop = omega (arith, i, j, b, t.ordered) in
    let w : Beside label header.cells r m out (row_statement text label k out)
    (row_statement (cut_out text header r) label 0 out)
    = rw (whole, alone) (aside-row label header.cells r m.start m.stop out l) in
    record {
      whole = whole;
      alone = alone;
      width = omega (arith, j);
      start_no_later = omega (arith, i, b);
      stop_no_later = l;
      side_by_side = w;
      written_alone = beside-writes w;
      refused_alone = beside-refused w;
      refused_whole = refused-beside w;
    }
