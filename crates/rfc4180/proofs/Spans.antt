-- A row's byte range holds the row: the bytes from its start up to its stop are a record with its cells.
use mathlib.Core.Path.{◌≡◌, refl}
use mathlib.Core.List.Memᴰ
use mathlib.Core.List.{List, [], ◌∷◌, ◌++◌, append_assoc, append-nil, Memᴰ}
use mathlib.Core.Logic.{⊎_elim}
use Prim.Native.Nat.{ℕ, ◌+◌, ◌-◌, ◌≤◌}
use native.Mathlib.Omega.{arith}
use lib.ListN.{length, length-append, take, drop}
use lib.Seq.{take-append_seam, drop-append_seam}
use Rattle.rfc4180.specs.Cells.{Cell, Row, row_of}
use Rattle.rfc4180.specs.Grammar.{CRLF, Record, File, no_row, last_row, row_crlf}

-- a byte range in the text, whose bytes are a record with the cells
pub record Spanned (s : List ℕ) (r : Row) : Type 0 where
  pub ordered : r.start ≤ r.stop
  pub inside : r.stop ≤ length s
  pub holds : Record (take (r.stop - r.start) (drop r.start s)) r.cells

here : (p t q : List ℕ) {a : ℕ} {cs : List Cell} → length p ≡ a → Record t cs
    → Spanned (p ++ (t ++ q)) (row_of a (a + length t) cs)
here p t q {a} e h =
    let d : (a + length t) - a ≡ length t = omega arith in
    record {
      ordered = omega arith;
      inside = omega (arith, length-append p (t ++ q), length-append t q);
      holds = rw (d, ← e, drop-append_seam p (t ++ q), take-append_seam t q) h;
    }

-- the same of a text that begins at an offset, after as many bytes
pub spans : {a : ℕ} {s : List ℕ} {rs : List Row} (p : List ℕ) → length p ≡ a → File a s rs → (r : Row) → Memᴰ r rs
    → Spanned (p ++ s) r
spans p e no_row r m = absurd (Memᴰ.not-nil m)
spans p e (last_row {a = a} {b = b} {s = s} {cs = cs} h) r m =
    let g : Spanned (p ++ (b ∷ s)) (row_of a (a + length (b ∷ s)) cs) = rw append-nil at (here p (b ∷ s) [] e h) in
    rw (Memᴰ.eq_of_singleton m) g
spans p e (row_crlf {a = a} {s = s} {t = t} {cs = cs} {rs = rs} h k) r m =
    let f : length (p ++ (s ++ CRLF)) ≡ a + length (s ++ CRLF) = omega (arith, length-append p (s ++ CRLF)) in
    ⊎_elim
    (λ (i : r ≡ row_of a (a + length s) cs). rw (i, append_assoc s CRLF t) (here p s (CRLF ++ t) e h))
    (λ (i : Memᴰ r rs). rw (append_assoc p (s ++ CRLF) t) at (spans (p ++ (s ++ CRLF)) f k r i))
    (Memᴰ.cases_cons m)

-- each row of a text has its byte range in the text, and the bytes there are its record
pub spanned : {s : List ℕ} {rs : List Row} → File 0 s rs → (r : Row) → Memᴰ r rs → Spanned s r
spanned h r m = spans [] refl h r m
