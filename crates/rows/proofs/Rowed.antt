-- A row that was found: which row of the text it is, and what its bytes hold.
use mathlib.Core.Path.{◌≡◌, refl, ap}
use mathlib.Core.List.{List, [], ◌∷◌, Memᴰ}
use Prim.Native.Nat.{ℕ, zero, suc}
use native.Mathlib.Omega.{arith}
use lib.ListN.{length, length-map}
use Rattle.lists.specs.Lists.{nth}
use Rattle.rfc4180.specs.Cells.{Row}
use Rattle.rfc4180.specs.Grammar.{Record}
use Rattle.rfc4180.specs.Csv.{rows_of}
use Rattle.rfc4180.proofs.Agree.{agree}
use Rattle.rfc4180.proofs.Spans.{Spanned, spanned}
use Rattle.cells.specs.Raw.{cell_of, raw_cells}
use Rattle.cells.proofs.Fields.{record-cells}
use Rattle.row_writer.specs.Inner.{cells_in, row_in}
use Rattle.row_writer.specs.declared.Bounds.{Bounds}
use Rattle.rows.specs.Inner.{bounds_of, searched, found_in, bytes_in}
use Rattle.std.specs.Prelude.{Some}
use Rattle.std.specs.Prelude.{Option, None}

nth-member : {x : Row} (l : List Row) (k : ℕ) → nth l k ≡ Some x → Memᴰ x l
unfolding nth
nth-member [] k e = absurd (let z : ◌≡◌ {A = ℕ} 0 1 = cc in omega arith)
nth-member {x} (y ∷ l) zero e = let f : x ≡ y = cc in Memᴰ.head f
nth-member (y ∷ l) (suc k) e = Memᴰ.tail (nth-member l k e)

-- row k of a text has its byte range there, and the bytes there are its record
pub nth-spanned : (text : List ℕ) (rows : List Row) (k : ℕ) {r : Row} → rows_of text ≡ Some rows → nth rows k ≡ Some r
    → Spanned text r
nth-spanned text rows k {r} e f = spanned ((agree text rows).0 e) r (nth-member rows k f)

-- the row k that was found, by its bounds
pub record Found (text : List ℕ) (k : ℕ) (b : Bounds) : Type 0 where
  pub rows : List Row
  pub row : Row
  pub read : rows_of text ≡ Some rows
  pub at : nth rows k ≡ Some row
  pub bounds : b ≡ bounds_of row

pub found : (text : List ℕ) (k : ℕ) (b : Bounds) → Some b ≡ found_in (rows_of text) k → Found text k b
unfolding found_in
found text k b e = go (rows_of text) refl e
  where
    there : (rows : List Row) → rows_of text ≡ Some rows → (o : Option Row) → nth rows k ≡ o → Some b ≡ searched o
        → Found text k b
    there rows f None g e = absurd (let z : ◌≡◌ {A = ℕ} 0 1 = cc in omega arith)
    there rows f (Some r) g e = record { rows = rows; row = r; read = f; at = g; bounds = cc }

    go : (o : Option (List Row)) → rows_of text ≡ o → Some b ≡ found_in o k → Found text k b
    go None f e = absurd (let z : ◌≡◌ {A = ℕ} 0 1 = cc in omega arith)
    go (Some rows) f e = there rows f (nth rows k) refl e

module _ (text : List ℕ) (k : ℕ) (b : Bounds) (h : Found text k b) where
  pub found-spanned : Spanned text h.row
  found-spanned = nth-spanned text h.rows k h.read h.at

  -- the bytes between the bounds hold the row's cells
  pub found-cells : cells_in (bytes_in text b) ≡ h.row.cells
  found-cells = rw h.bounds (record-cells found-spanned.holds)

  pub found-count : length (raw_cells (bytes_in text b)) ≡ b.cells
  found-count =
      let e : length (cells_in (bytes_in text b)) ≡ length h.row.cells = ap length found-cells in
      let f : b.cells ≡ length h.row.cells = ap (λ (x : Bounds). x.cells) h.bounds in
      omega (arith, length-map (raw_cells (bytes_in text b)) cell_of)

  pub found-read : Record (bytes_in text b) (cells_in (bytes_in text b))
  found-read = rw (found-cells, h.bounds) found-spanned.holds

  pub found-row : row_in (bytes_in text b) b ≡ h.row
  found-row = rw (found-cells, h.bounds)
