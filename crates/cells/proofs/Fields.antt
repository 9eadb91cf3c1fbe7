-- The grammar of RFC 4180 over raw cells: a field is the raw cell of its cell, and a record is cut into its fields.
use mathlib.Core.Path.{◌≡◌, refl, ap, ◌∙◌}
use mathlib.Core.Bool.{Bool, true, false, not}
use mathlib.Core.List.Memᴰ
use mathlib.Core.List.{List, [], ◌∷◌, ◌++◌, append-nil, append_assoc, map, Memᴰ}
use mathlib.Core.Logic.{⊎_elim}
use Prim.Native.Nat.{ℕ}
use native.Mathlib.Omega.{arith}
use borrow.Author.Tests.{ne_eqb}
use Rattle.rfc4180.specs.Cells.{Cell, in_quotes}
use Rattle.rfc4180.specs.Grammar.{COMMA, CR, DQUOTE, LF, TEXTDATA, x20_21, x23_2b, x2d_7e, x80_ff, NonEscaped, no_textdata, textdata, Inside, nothing, a_textdata, a_comma, a_cr, a_lf, a_2dquote, Field, escaped, non_escaped, Record, one_field, field_comma}
use Rattle.cells.proofs.Numerals.{both_false}
use Rattle.cells.specs.Raw.{ends_cell, turned, first_cell, later_cells, raw_cells, undoubled, cell_of}

-- a byte of TEXTDATA is neither quote nor comma
no-quote : {a : ℕ} → TEXTDATA a → a ≡ DQUOTE → ⊥
no-quote (x20_21 h) e = omega arith
no-quote (x23_2b h) e = omega arith
no-quote (x2d_7e h) e = omega arith
no-quote (x80_ff h) e = omega arith

no-comma : {a : ℕ} → TEXTDATA a → a ≡ COMMA → ⊥
no-comma (x20_21 h) e = omega arith
no-comma (x23_2b h) e = omega arith
no-comma (x2d_7e h) e = omega arith
no-comma (x80_ff h) e = omega arith

-- ---- a text that no cell ends in: with whatever follows it, it is passed
record Passed (s : List ℕ) (q q' : Bool) : Type 0 where
  first : (t : List ℕ) → first_cell (s ++ t) q ≡ s ++ first_cell t q'
  later : (t : List ℕ) → later_cells (s ++ t) q ≡ later_cells t q'

passed_none : (q : Bool) → Passed [] q q
passed_none q = record { first = λ t. refl; later = λ t. refl }

-- after a byte that ends no cell
passed-more : {s : List ℕ} {q' : Bool} (b : ℕ) (q : Bool) → ends_cell q b ≡ false → Passed s (turned q b) q'
    → Passed (b ∷ s) q q'
unfolding first_cell later_cells
passed-more b q e p = record {
  first = λ t. rw e (ap (λ (l : List ℕ). b ∷ l) (p.first t));
  later = λ t. rw e (p.later t);
}

passed-text : {a : ℕ} {s : List ℕ} (q : Bool) → TEXTDATA a → Passed s q q → Passed (a ∷ s) q q
passed-text {a} {s} q h p =
    passed-more a q (rw (ne_eqb a COMMA (no-comma h)) (both_false (not q))) (rw (ne_eqb a DQUOTE (no-quote h)) p)

passed-join : {s t : List ℕ} {q r q' : Bool} → Passed s q r → Passed t r q' → Passed (s ++ t) q q'
passed-join {s} {t} a b = record {
  first = λ u. rw (append_assoc s t u, a.first (t ++ u), b.first u, append_assoc s t (first_cell u _));
  later = λ u. rw (append_assoc s t u, a.later (t ++ u)) (b.later u);
}

inside-passed : {s c : List ℕ} → Inside s c → Passed s true true
inside-passed nothing = passed_none true
inside-passed (a_textdata h k) = passed-text true h (inside-passed k)
inside-passed (a_comma k) = passed-more COMMA true refl (inside-passed k)
inside-passed (a_cr k) = passed-more CR true refl (inside-passed k)
inside-passed (a_lf k) = passed-more LF true refl (inside-passed k)
inside-passed (a_2dquote k) = passed-more DQUOTE true refl (passed-more DQUOTE false refl (inside-passed k))

plain-passed : {s : List ℕ} → NonEscaped s → Passed s false false
plain-passed no_textdata = passed_none false
plain-passed (textdata h k) = passed-text false h (plain-passed k)

field-passed : {f : List ℕ} {c : Cell} → Field f c → Passed f false false
field-passed (escaped k) =
    passed-more DQUOTE false refl (passed-join (inside-passed k) (passed-more DQUOTE true refl (passed_none false)))
field-passed (non_escaped k) = plain-passed k

-- ---- the raw cells of a record
-- a field alone, and before a comma
field-alone : {f : List ℕ} {c : Cell} → Field f c → raw_cells f ≡ f ∷ []
unfolding first_cell later_cells
field-alone {f} k =
    let p = field-passed k in
    let a : first_cell f false ≡ f = rw (append-nil f) at (p.first []) in
    let b : later_cells f false ≡ [] = rw (append-nil f) at (p.later []) in
    cc

field-first : {f : List ℕ} {c : Cell} (t : List ℕ) → Field f c → raw_cells (f ++ COMMA ∷ t) ≡ f ∷ raw_cells t
unfolding first_cell later_cells
field-first {f} t k =
    let p = field-passed k in
    let a : first_cell (f ++ COMMA ∷ t) false ≡ f = p.first (COMMA ∷ t) ∙ append-nil f in
    let b : later_cells (f ++ COMMA ∷ t) false ≡ raw_cells t = p.later (COMMA ∷ t) in
    cc

-- ---- the cell of a field
undoubled-text : (a : ℕ) (s : List ℕ) (d : ℕ) → (a ≡ DQUOTE → ⊥)
    → undoubled (a ∷ (s ++ d ∷ [])) ≡ a ∷ undoubled (s ++ d ∷ [])
unfolding undoubled
undoubled-text a [] d n = rw (ne_eqb a DQUOTE n)
undoubled-text a (b ∷ s) d n = rw (ne_eqb a DQUOTE n)

undoubled-inside : {s c : List ℕ} → Inside s c → undoubled (s ++ DQUOTE ∷ []) ≡ c
unfolding undoubled
undoubled-inside nothing = refl
undoubled-inside (a_textdata {a = a} {s = s} h k) =
    undoubled-text a s DQUOTE (no-quote h) ∙ ap (λ (l : List ℕ). a ∷ l) (undoubled-inside k)
undoubled-inside (a_comma {s = s} k) =
    undoubled-text COMMA s DQUOTE (λ e. omega arith) ∙ ap (λ (l : List ℕ). COMMA ∷ l) (undoubled-inside k)
undoubled-inside (a_cr {s = s} k) =
    undoubled-text CR s DQUOTE (λ e. omega arith) ∙ ap (λ (l : List ℕ). CR ∷ l) (undoubled-inside k)
undoubled-inside (a_lf {s = s} k) =
    undoubled-text LF s DQUOTE (λ e. omega arith) ∙ ap (λ (l : List ℕ). LF ∷ l) (undoubled-inside k)
undoubled-inside (a_2dquote k) = ap (λ (l : List ℕ). DQUOTE ∷ l) (undoubled-inside k)

pub field-cell : {f : List ℕ} {c : Cell} → Field f c → cell_of f ≡ c
unfolding cell_of
field-cell (escaped k) = ap (λ (l : List ℕ). in_quotes l) (undoubled-inside k)
field-cell (non_escaped no_textdata) = refl
field-cell (non_escaped (textdata {a = a} h k)) = rw (ne_eqb a DQUOTE (no-quote h))

-- ---- a record's raw cells are its cells' fields
pub record-cells : {s : List ℕ} {cs : List Cell} → Record s cs → map cell_of (raw_cells s) ≡ cs
record-cells (one_field k) =
    ap (λ (l : List (List ℕ)). map cell_of l) (field-alone k) ∙ ap (λ (d : Cell). d ∷ []) (field-cell k)
record-cells (field_comma {s = s} {t = t} {c = c} {cs = cs} k r) =
    let e : cell_of s ≡ c = field-cell k in
    let f : map cell_of (raw_cells t) ≡ cs = record-cells r in
    let g : cell_of s ∷ map cell_of (raw_cells t) ≡ c ∷ cs = cc in
    ap (λ (l : List (List ℕ)). map cell_of l) (field-first t k) ∙ g

pub record-fields : {s : List ℕ} {cs : List Cell} (raw : List ℕ) → Record s cs → Memᴰ raw (raw_cells s)
    → Field raw (cell_of raw)
record-fields raw (one_field k) m =
    let e = Memᴰ.eq_of_singleton (rw (field-alone k) at m) in
    rw (e, field-cell k) k
record-fields raw (field_comma {s = s} {t = t} k r) m = ⊎_elim
    (λ (e : raw ≡ s). rw (e, field-cell k) k)
    (λ o. record-fields raw r o)
    (Memᴰ.cases_cons (rw (field-first t k) at m))
