-- `rows_of` computes the grammar of RFC 4180, which therefore gives a text one list of rows at most.
use mathlib.Core.Path.{◌≡◌, refl}
use mathlib.Core.List.{List, [], ◌∷◌, ◌++◌, append_assoc, append-nil}
use Prim.Native.Nat.{ℕ, ◌+◌}
use native.Mathlib.Omega.{arith}
use lib.ListN.{length, length-append}
use Rattle.rfc4180.specs.Cells.{Cell, Row, row_of}
use Rattle.rfc4180.specs.Grammar.{CRLF, no_textdata, non_escaped, Record, one_field, Lines, one_line, line_crlf, ABNF, no_crlf, last_crlf, File, no_row, last_row, row_crlf}
use Rattle.rfc4180.specs.Csv.{rows_from, rows_of}
use Rattle.rfc4180.proofs.Computed.{file-rows}
use Rattle.rfc4180.proofs.Read.{rows-file}
use Rattle.std.specs.Prelude.{Option, Some, None}

-- the rows of a text that begins at any offset are those that the grammar gives it
pub agree-from : (a : ℕ) (s : List ℕ) (rs : List Row) → (rows_from a s ≡ Some rs → File a s rs)
    × (File a s rs → rows_from a s ≡ Some rs)
unfolding rows_from
agree-from a s rs = (λ e. rows-file a s e, λ h. file-rows [] h)

-- the rows of a text are those that the grammar gives it
pub agree : (s : List ℕ) (rs : List Row) → (rows_of s ≡ Some rs → File 0 s rs) × (File 0 s rs → rows_of s ≡ Some rs)
agree s rs = agree-from 0 s rs

-- the grammar gives a text one list of rows at most
pub one-reading : {s : List ℕ} {rs qs : List Row} → File 0 s rs → File 0 s qs → rs ≡ qs
one-reading {s} {rs} {qs} h k =
    let e : rows_of s ≡ Some rs = (agree s rs).1 h in
    let f : rows_of s ≡ Some qs = (agree s qs).1 k in
    cc

-- ---- the rule of the RFC as it stands, and the rows
file-line : (a : ℕ) (s : List ℕ) {cs : List Cell} → Record s cs → (rs : List Row) × File a s rs
file-line a [] h = ([], no_row)
file-line a (b ∷ s) h = (_, last_row h)

file-lines : {s : List ℕ} (a : ℕ) → Lines s → (rs : List Row) × File a s rs
file-lines a (one_line {s = s} h) = file-line a s h
file-lines a (line_crlf {s = s} h k) = (_, row_crlf h (file-lines (a + length (s ++ CRLF)) k).1)

file-crlf : {s : List ℕ} (a : ℕ) → Lines s → (rs : List Row) × File a (s ++ CRLF) rs
file-crlf a (one_line {s = s} {cs = cs} h) =
    let r : File a (s ++ CRLF ++ []) (row_of a (a + length s) cs ∷ []) = row_crlf h no_row in
    (_, rw append-nil at r)
file-crlf a (line_crlf {s = s} {t = t} {cs = cs} h k) =
    let r = file-crlf (a + length (s ++ CRLF)) k in
    (row_of a (a + length s) cs ∷ r.0, rw (append_assoc (s ++ CRLF) t CRLF) (row_crlf h r.1))

abnf-row : {s t : List ℕ} {cs : List Cell} → Record s cs → ABNF t → ABNF (s ++ CRLF ++ t)
abnf-row h (no_crlf k) = no_crlf (line_crlf h k)
abnf-row {s = s} h (last_crlf {s = t} k) = rw (append_assoc (s ++ CRLF) t CRLF) at (last_crlf (line_crlf h k))

file-abnf : {a : ℕ} {s : List ℕ} {rs : List Row} → File a s rs → ABNF s
file-abnf no_row = no_crlf (one_line (one_field (non_escaped no_textdata)))
file-abnf (last_row h) = no_crlf (one_line h)
file-abnf (row_crlf h k) = abnf-row h (file-abnf k)

abnf-file : {s : List ℕ} (a : ℕ) → ABNF s → (rs : List Row) × File a s rs
abnf-file a (no_crlf h) = file-lines a h
abnf-file a (last_crlf h) = file-crlf a h

-- a text is of the RFC's rule exactly when the grammar gives it rows, at any offset
pub literal-from : (a : ℕ) (s : List ℕ) → (ABNF s → (rs : List Row) × File a s rs)
    × (((rs : List Row) × File a s rs) → ABNF s)
literal-from a s = (λ h. abnf-file a h, λ h. file-abnf h.1)

-- a text is of the RFC's rule exactly when the grammar gives it rows
pub literal : (s : List ℕ) → (ABNF s → (rs : List Row) × File 0 s rs) × (((rs : List Row) × File 0 s rs) → ABNF s)
literal s = literal-from 0 s

no_rows : (a : ℕ) (s : List ℕ) {rs : List Row} → rows_from a s ≡ None → rows_from a s ≡ Some rs → ⊥
no_rows a s e f = let z : ◌≡◌ {A = ℕ} 0 1 = cc in omega arith

-- a text has no rows, at any offset, exactly when it breaks the RFC's rule
pub broken-from : (a : ℕ) (s : List ℕ) → (rows_from a s ≡ None → ABNF s → ⊥) × ((ABNF s → ⊥) → rows_from a s ≡ None)
broken-from a s = (λ e h. no_rows a s e ((agree-from a s _).1 (abnf-file a h).1), λ n. go (rows_from a s) refl n)
  where
    go : (o : Option (List Row)) → rows_from a s ≡ o → (ABNF s → ⊥) → o ≡ None
    go None e n = refl
    go (Some rs) e n = absurd (n (file-abnf ((agree-from a s rs).0 e)))

-- a text has no rows exactly when it breaks the RFC's rule
pub broken : (s : List ℕ) → (rows_of s ≡ None → ABNF s → ⊥) × ((ABNF s → ⊥) → rows_of s ≡ None)
broken s = broken-from 0 s

-- what rows are read from is of the RFC's rule
pub read-abnf : (a : ℕ) (s : List ℕ) {rs : List Row} → rows_from a s ≡ Some rs → ABNF s
read-abnf a s {rs} e = file-abnf ((agree-from a s rs).0 e)

-- two records, each with its line end, are two rows: a header and a row by themselves
pub cut_out_lem : {h t : List ℕ} {hs cs : List Cell} → Record h hs → Record t cs → rows_of (h ++ CRLF ++ t ++ CRLF) ≡ Some
    (row_of 0 (length h) hs ∷ row_of (length h + 2) (length h + 2 + length t) cs ∷ [])
cut_out_lem {h} {t} {hs} {cs} k l =
    let b : 0 + length (h ++ CRLF) ≡ length h + 2 = omega (arith, length-append h CRLF) in
    let d : 0 + length h ≡ length h = omega arith in
    let r : File (length h + 2) (t ++ CRLF ++ []) (row_of (length h + 2) (length h + 2 + length t) cs ∷ [])
    = row_crlf l no_row in
    let q : File (0 + length (h ++ CRLF)) (t ++ CRLF ++ []) (row_of (length h + 2) (length h + 2 + length t) cs ∷ [])
    = rw b r in
    let f : File 0 (h ++ CRLF ++ (t ++ CRLF ++ []))
    (row_of 0 (0 + length h) hs ∷ row_of (length h + 2) (length h + 2 + length t) cs ∷ [])
    = row_crlf k q in
    (agree (h ++ CRLF ++ t ++ CRLF) _).1 (rw (append_assoc (h ++ CRLF) t CRLF) (rw (append-nil (t ++ CRLF), d) at f))
