-- What row_statement does, from what the code finds: the texts that it turns down, and the row that it writes.
use mathlib.Core.Path.{◌≡◌, ◌∙◌, refl, sym, ap}
use mathlib.Core.List.{List, [], ◌∷◌}
use mathlib.Core.Bool.{true, false}
use Prim.Native.Nat.{ℕ, suc, ◌+◌}
use native.Mathlib.Omega.{arith}
use lib.ListN.{length}
use borrow.Author.Tests.{eq-eqb, ne_eqb}
use Rattle.lists.specs.Lists.{nth}
use Rattle.lists.proofs.Tests.{never}
use Rattle.schema.specs.Effect.{Effect, refusal, Done}
use Rattle.rfc4180.specs.Cells.{Row}
use Rattle.rfc4180.specs.Csv.{rows_of}
use Rattle.row_writer.specs.Writing.{paper_effect}
use Rattle.row_writer.specs.Inner.{paper_in}
use Rattle.row_writer.specs.declared.Bounds.{Bounds}
use Rattle.rows.specs.Rows.{row_effect, rows_effect, unless_broken, row_statement}
use Rattle.rows.specs.Inner.{is_there, searched, found_in, bytes_in, Even}
use Rattle.rows.proofs.Rowed.{Found, found-spanned, found-cells, found-count, found-read, found-row}
use Rattle.std.specs.Prelude.{Some, None, Result}
use Rattle.schema.specs.declared.Refusal.{Refusal}
use Rattle.std.specs.Prelude.{Option}

-- a text with a header: what is done is what is done of row k behind it
pub rows-effect : (text label : List ℕ) (k : ℕ) (out : List ℕ) (h : Row) (rows : List Row)
    → rows_of text ≡ Some (h ∷ rows) → row_statement text label k out ≡ row_effect label h.cells (nth rows k) out
unfolding row_statement rows_effect
rows-effect text label k out h rows e = rw e

-- what is done is what row_statement does
done-as : {a b : Effect} {l o : List ℕ} {r : Result ℕ Refusal} → a ≡ b → Done b l r o → Done a l r o
done-as e d = rw e d

nobody : {b : Bounds} {A : Type 0} → None ≡ Some b → A
nobody e = absurd (let z : ◌≡◌ {A = ℕ} 0 1 = cc in omega arith)

abbrev refused18 : Effect
refused18 = refusal 18 0 0

module _ (text label : List ℕ) (k : ℕ) (out : List ℕ) where
  abbrev effect : Effect
  effect = row_statement text label k out

  broken-effect : is_there (rows_of text) ≡ false → effect ≡ refusal 17 0 0
  unfolding row_statement
  broken-effect h = go (rows_of text) h
    where
      go : (o : Option (List Row)) → is_there o ≡ false
          → unless_broken o (λ rows. rows_effect label k rows out) ≡ refusal 17 0 0
      go None h = refl
      go (Some rows) h = never (sym h)

  no-header-effect : is_there (rows_of text) ≡ true → None ≡ found_in (rows_of text) 0 → effect ≡ refused18
  unfolding row_statement rows_effect found_in nth
  no-header-effect h e = go (rows_of text) h e
    where
      go : (o : Option (List Row)) → is_there o ≡ true → None ≡ found_in o 0
          → unless_broken o (λ rows. rows_effect label k rows out) ≡ refused18
      go None h e = never h
      go (Some []) h e = refl
      go (Some (r ∷ rows)) h e = nobody e

  no-row-effect : is_there (rows_of text) ≡ true → None ≡ found_in (rows_of text) (1 + k) → effect ≡ refused18
  unfolding row_statement rows_effect row_effect found_in nth
  no-row-effect h e = let n : 1 + k ≡ suc k = omega arith in go (rows_of text) h (rw n at e)
    where
      row : (header : Row) (o : Option Row) → None ≡ searched o → row_effect label header.cells o out ≡ refused18
      row header None e = refl
      row header (Some r) e = nobody e

      go : (o : Option (List Row)) → is_there o ≡ true → None ≡ found_in o (suc k)
          → unless_broken o (λ rows. rows_effect label k rows out) ≡ refused18
      go None h e = never h
      go (Some []) h e = refl
      go (Some (r ∷ rows)) h e = row r (nth rows k) e

  pub broken : {r : Result ℕ Refusal} → is_there (rows_of text) ≡ false → Done (refusal 17 0 0) out r out → Done effect out r out
  broken h d = done-as (broken-effect h) d

  module _ {r : Result ℕ Refusal} (h : is_there (rows_of text) ≡ true) (d : Done refused18 out r out) where
    pub no_header : None ≡ found_in (rows_of text) 0 → Done effect out r out
    no_header e = done-as (no-header-effect h e) d

    pub no_row : None ≡ found_in (rows_of text) (1 + k) → Done effect out r out
    no_row e = done-as (no-row-effect h e) d

-- ---- the header and the row are there
first_of : (rows : List Row) {h : Row} → nth rows 0 ≡ Some h → (rest : List Row) × (rows ≡ h ∷ rest)
unfolding nth
first_of [] e = absurd (let z : ◌≡◌ {A = ℕ} 0 1 = cc in omega arith)
first_of (r ∷ rows) {h} e = let f : r ≡ h = cc in (rows, rw f)

behind-first : (r : Row) (rows : List Row) (k : ℕ) → nth (r ∷ rows) (1 + k) ≡ nth rows k
unfolding nth
behind-first r rows k = let n : 1 + k ≡ suc k = omega arith in rw n

module _ (text : List ℕ) (k : ℕ) (header row : Bounds) (p : Found text 0 header) (q : Found text k row) where
  pub are-even : row.cells ≡ header.cells → Even text header row
  are-even h =
      let s = found-spanned text 0 header p in
      let t = found-spanned text k row q in
      record {
        header_ordered = rw p.bounds s.ordered;
        header_inside = rw p.bounds s.inside;
        row_inside = rw q.bounds t.inside;
        cut = record {
          header_read = found-read text 0 header p;
          headers = omega (arith, found-count text 0 header p);
          cells = found-count text k row q;
          ordered = rw q.bounds t.ordered;
        };
      }

module _ (text label : List ℕ) (k : ℕ) (out : List ℕ) (header row : Bounds) (p : Found text 0 header)
    (q : Found text (1 + k) row) where
  row-effect : row_statement text label k out ≡ row_effect label p.row.cells (Some q.row) out
  row-effect =
      let o = first_of p.rows p.at in
      let e : rows_of text ≡ Some (p.row ∷ o.0) = p.read ∙ ap Some o.1 in
      let w : q.rows ≡ p.row ∷ o.0 = let z = q.read in cc in
      let n : nth o.0 k ≡ Some q.row
      = sym (behind-first p.row o.0 k) ∙ rw w at q.at in
      rows-effect text label k out p.row o.0 e ∙ rw n

  uneven-effect : (row.cells ≡ header.cells → ⊥) → row_statement text label k out ≡ refused18
  unfolding row_effect
  uneven-effect h =
      let a : row.cells ≡ length q.row.cells = ap (λ (x : Bounds). x.cells) q.bounds in
      let b : header.cells ≡ length p.row.cells = ap (λ (x : Bounds). x.cells) p.bounds in
      let n = ne_eqb (length q.row.cells) (length p.row.cells) (λ z. h (omega arith)) in
      row-effect ∙ rw n

  even-effect : row.cells ≡ header.cells → row_statement text label k out
      ≡ paper_effect (paper_in label (bytes_in text header) (bytes_in text row) row) row.stop out
  unfolding row_effect
  even-effect h =
      let a : row.cells ≡ length q.row.cells = ap (λ (x : Bounds). x.cells) q.bounds in
      let b : header.cells ≡ length p.row.cells = ap (λ (x : Bounds). x.cells) p.bounds in
      let n = eq-eqb (length q.row.cells) (length p.row.cells) (omega arith) in
      let v : row.stop ≡ q.row.stop = ap (λ (x : Bounds). x.stop) q.bounds in
      row-effect ∙ rw (n, found-cells text 0 header p, found-row text (1 + k) row q, v)

  pub uneven : {r : Result ℕ Refusal} → (row.cells ≡ header.cells → ⊥) → Done refused18 out r out
      → Done (row_statement text label k out) out r out
  uneven h d = done-as (uneven-effect h) d

  pub row_done : {r : Result ℕ Refusal} {o : List ℕ} → row.cells ≡ header.cells
      → Done (paper_effect (paper_in label (bytes_in text header) (bytes_in text row) row) row.stop out) out r o
      → Done (row_statement text label k out) out r o
  row_done h d = done-as (even-effect h) d
