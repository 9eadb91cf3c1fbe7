-- A record with a CRLF or the text's end after it is read as a row with its cells.
use mathlib.Core.Path.{◌≡◌, ◌∙◌, refl}
use mathlib.Core.List.{List, [], ◌∷◌, ◌++◌, append_assoc, append-nil}
use mathlib.Core.Bool.{false}
use Prim.Native.Nat.{ℕ, suc, ◌+◌, ◌-◌}
use native.Mathlib.Omega.{arith}
use lib.ListN.{length, length-append}
use lib.Seq.{append_snoc}
use Rattle.rfc4180.specs.Cells.{Cell}
use Rattle.rfc4180.specs.Grammar.{COMMA, DQUOTE, CRLF, NonEscaped, no_textdata, textdata, Inside, nothing, a_textdata, a_comma, a_cr, a_lf, a_2dquote, Field, escaped, non_escaped, Record, one_field, field_comma}
use Rattle.rfc4180.specs.Csv.{class_of, turn_of, fresh, plain, quotes, closing}
use Rattle.rfc4180.specs.Line.{span_of, line_by, line_from}
use Rattle.rfc4180.specs.Scan.{starts, is_text, starts_text, after_by, after_cell}
use Rattle.rfc4180.specs.declared.Line.TheVariants.{Whole}
use Rattle.rfc4180.proofs.Bytes.{class-text}
use Rattle.rfc4180.proofs.Scans.{fresh-plain, plain-after, closing_after}

one_on : (p k : ℕ) → p + suc k ≡ suc p + k
one_on p k = omega arith

module _ (u : List ℕ) (n : ℕ) where
  -- *TEXTDATA
  plain-line : {t : List ℕ} (p : ℕ) → starts_text u ≡ false → NonEscaped t
      → line_from (t ++ u) plain n p ≡ after_cell u (suc n) (p + length t)
  unfolding line_from line_by turn_of
  plain-line p e no_textdata =
      let f : p + 0 ≡ p = omega arith in
      rw f (plain-after n p u e)
  plain-line p e (textdata {s = t} h k) = rw (class-text h, one_on p (length t)) (plain-line (suc p) e k)

  -- *(TEXTDATA / COMMA / CR / LF / 2DQUOTE) DQUOTE
  inside-line : {t c : List ℕ} (p : ℕ) → Inside t c
      → line_from (t ++ DQUOTE ∷ u) quotes n p ≡ line_from u closing n (suc (p + length t))
  unfolding line_from line_by turn_of class_of
  inside-line p nothing =
      let f : p + 0 ≡ p = omega arith in
      rw f
  inside-line p (a_textdata {s = t} h k) = rw (class-text h, one_on p (length t)) (inside-line (suc p) k)
  inside-line p (a_comma {s = t} k) = rw (one_on p (length t)) (inside-line (suc p) k)
  inside-line p (a_cr {s = t} k) = rw (one_on p (length t)) (inside-line (suc p) k)
  inside-line p (a_lf {s = t} k) = rw (one_on p (length t)) (inside-line (suc p) k)
  inside-line p (a_2dquote {s = t} k) =
      let f : p + suc (suc (length t)) ≡ suc (suc p) + length t = omega arith in
      rw f (inside-line (suc (suc p)) k)

  -- (escaped / non-escaped)
  field-line : {t : List ℕ} {c : Cell} (p : ℕ) → starts_text u ≡ false → starts DQUOTE u ≡ false → Field t c
      → line_from (t ++ u) fresh n p ≡ after_cell u (suc n) (p + length t)
  unfolding line_from line_by turn_of class_of
  field-line p e d (non_escaped no_textdata) =
      let f : p + 0 ≡ p = omega arith in
      rw f (fresh-plain n p u d ∙ plain-after n p u e)
  field-line p e d (non_escaped (textdata {s = t} h k)) = rw (class-text h, one_on p (length t))
      (plain-line (suc p) e k)
  field-line p e d (escaped {s = s} h) =
      let f : p + length (DQUOTE ∷ s ++ DQUOTE ∷ []) ≡ suc (suc p + length s)
      = omega (arith, length-append s (DQUOTE ∷ [])) in
      rw (append_snoc s DQUOTE u, f) (inside-line (suc p) h ∙ closing_after n (suc (suc p + length s)) u d)

-- field *(COMMA field), n cells having ended before
record-line : {t : List ℕ} {cs : List Cell} (u : List ℕ) (n p : ℕ) → starts_text u ≡ false → starts DQUOTE u ≡ false
    → Record t cs → line_from (t ++ u) fresh n p ≡ after_cell u (n + length cs) (p + length t)
unfolding starts_text starts is_text class_of after_cell after_by
record-line u n p e d (one_field h) =
    let f : n + 1 ≡ suc n = omega arith in
    rw f (field-line u n p e d h)
record-line u n p e d (field_comma {s = s} {t = t} {cs = cs} h k) =
    let f : p + length (s ++ COMMA ∷ t) ≡ suc (p + length s) + length t = omega (arith, length-append s (COMMA ∷ t)) in
    rw (append_assoc s (COMMA ∷ t) u, f, one_on n (length cs))
    (field-line (COMMA ∷ (t ++ u)) n p refl refl h ∙ record-line u (suc n) (suc (p + length s)) e d k)

-- and a CRLF after it
pub crlf-line : {t : List ℕ} {cs : List Cell} (u : List ℕ) (a q r : ℕ) → q ≡ a + length t → r ≡ q + length CRLF
    → Record t cs → line_from (t ++ CRLF ++ u) fresh 0 a ≡ Whole (span_of q r (length cs))
unfolding starts_text starts is_text class_of after_cell after_by line_from line_by turn_of
crlf-line {t} {cs} u a q r e f h =
    let g : suc (a + length t) - 1 ≡ q = omega arith in
    let k : suc (suc (a + length t)) ≡ r = omega arith in
    let z : 0 + length cs ≡ length cs = omega arith in
    rw (append_assoc t CRLF u) (record-line (CRLF ++ u) 0 a refl refl h ∙ rw (g, k, z))

-- and the text's end after it
pub end_line : {t : List ℕ} {cs : List Cell} (a q : ℕ) → q ≡ a + length t → Record t cs
    → line_from t fresh 0 a ≡ Whole (span_of q q (length cs))
unfolding starts_text starts after_cell
end_line {t} {cs} a q e h =
    let z : 0 + length cs ≡ length cs = omega arith in
    let l : line_from (t ++ []) fresh 0 a ≡ Whole (span_of (a + length t) (a + length t) (0 + length cs))
    = record-line [] 0 a refl refl h in
    rw (append-nil t, z, ← e) at l
