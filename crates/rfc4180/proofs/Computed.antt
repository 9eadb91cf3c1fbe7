-- A text of the grammar is read to the rows that the grammar gives it.
use mathlib.Core.Path.{◌≡◌, ◌∙◌, refl}
use mathlib.Core.List.{List, [], ◌∷◌, ◌++◌, append_assoc, append-nil}
use mathlib.Core.Bool.{false}
use Prim.Native.Nat.{ℕ, suc, ◌+◌}
use native.Mathlib.Omega.{arith}
use lib.Dec.{eqb}
use lib.ListN.{length, length-append}
use borrow.Author.Tests.{eq-eqb, ne_eqb}
use Rattle.lists.specs.Lists.{pick}
use Rattle.rfc4180.specs.Cells.{Cell, unquoted, in_quotes, Row, row_of}
use Rattle.rfc4180.specs.Grammar.{COMMA, CR, DQUOTE, LF, CRLF, TEXTDATA, NonEscaped, no_textdata, textdata, Inside, nothing, a_textdata, a_comma, a_cr, a_lf, a_2dquote, Field, escaped, non_escaped, Record, one_field, field_comma, File, no_row, last_row, row_crlf}
use Rattle.rfc4180.specs.Csv.{text, class_of, Mode, fresh, plain, quotes, closing, State, state_of, begin, turn_of, apply, step_by, step_of, runs, finish, rows_at}
use Rattle.rfc4180.proofs.Bytes.{class-text}
use Rattle.std.specs.Prelude.{Some}

pub runs_append : (st : State) (s t : List ℕ) → runs st (s ++ t) ≡ runs (runs st s) t
unfolding runs
runs_append st [] t = refl
runs_append st (b ∷ s) t = runs_append (step_of st b) s t

pub runs-more : (st : State) (b : ℕ) (s : List ℕ) → runs st (b ∷ s) ≡ runs (step_of st b) s
unfolding runs
runs-more st b s = refl

pub runs_none : (st : State) → runs st [] ≡ st
unfolding runs
runs_none st = refl

-- ---- steps
step-text : (m : Mode) {b : ℕ} (a n : ℕ) (c : List ℕ) (cs : List Cell) (rs : List Row) → TEXTDATA b
    → step_of (state_of m a n c cs rs) b ≡ step_by m text b (state_of m a n c cs rs)
unfolding step_of
step-text m a n c cs rs h = rw (class-text h)

module _ (a : ℕ) (cs : List Cell) (rs : List Row) where
  -- *TEXTDATA
  plain_runs : {t : List ℕ} (n : ℕ) (c : List ℕ) → NonEscaped t
      → runs (state_of plain a n c cs rs) t ≡ state_of plain a (n + length t) (c ++ t) cs rs
  unfolding runs turn_of apply
  plain_runs n c no_textdata =
      let e : n + 0 ≡ n = omega arith in
      rw (append-nil, e)
  plain_runs n c (textdata {a = x} {s = t} h k) =
      let e : suc n + length t ≡ n + suc (length t) = omega arith in
      rw (step-text plain a n c cs rs h, plain_runs (suc n) (c ++ x ∷ []) k, append_assoc, e)

  -- *(TEXTDATA / COMMA / CR / LF / 2DQUOTE)
  inside_one : (b n : ℕ) (c d t : List ℕ)
      → step_of (state_of quotes a n c cs rs) b ≡ state_of quotes a (suc n) (c ++ b ∷ []) cs rs
      → runs (state_of quotes a (suc n) (c ++ b ∷ []) cs rs) t ≡ state_of quotes a (suc n + length t)
      ((c ++ b ∷ []) ++ d) cs
      rs
      → runs (state_of quotes a n c cs rs) (b ∷ t) ≡ state_of quotes a (n + length (b ∷ t)) (c ++ b ∷ d) cs rs
  unfolding runs
  inside_one b n c d t e f =
      let g : suc n + length t ≡ n + suc (length t) = omega arith in
      rw (e, f, append_assoc, g)

  inside-runs : {t d : List ℕ} (n : ℕ) (c : List ℕ) → Inside t d
      → runs (state_of quotes a n c cs rs) t ≡ state_of quotes a (n + length t) (c ++ d) cs rs
  unfolding runs turn_of apply step_of class_of
  inside-runs n c nothing =
      let e : n + 0 ≡ n = omega arith in
      rw (append-nil, e)
  inside-runs n c (a_textdata {a = x} {s = t} {c = d} h k) = inside_one x n c d t (step-text quotes a n c cs rs h)
      (inside-runs (suc n) (c ++ x ∷ []) k)
  inside-runs n c (a_comma {s = t} {c = d} k) = inside_one COMMA n c d t refl (inside-runs (suc n) (c ++ COMMA ∷ []) k)
  inside-runs n c (a_cr {s = t} {c = d} k) = inside_one CR n c d t refl (inside-runs (suc n) (c ++ CR ∷ []) k)
  inside-runs n c (a_lf {s = t} {c = d} k) = inside_one LF n c d t refl (inside-runs (suc n) (c ++ LF ∷ []) k)
  inside-runs n c (a_2dquote {s = t} {c = d} k) =
      let e : suc (suc n) + length t ≡ n + suc (suc (length t)) = omega arith in
      rw (inside-runs (suc (suc n)) (c ++ DQUOTE ∷ []) k, append_assoc, e)

-- a cell may end here: the offset of the next byte, and the row's cells with this one
pub data Done (a : ℕ) (rs : List Row) : ℕ → List Cell → State → Type 0 where
  in_fresh : {n : ℕ} {c : List ℕ} {cs : List Cell} → Done a rs n (cs ++ unquoted c ∷ []) (state_of fresh a n c cs rs)
  in_plain : {n : ℕ} {c : List ℕ} {cs : List Cell} → Done a rs n (cs ++ unquoted c ∷ []) (state_of plain a n c cs rs)
  in_closing : {n : ℕ} {c : List ℕ} {cs : List Cell} → Done a rs n (cs ++ in_quotes c ∷ []) (state_of closing a n c cs rs)

module _ (a : ℕ) (rs : List Row) where
  done-comma : {n : ℕ} {cs : List Cell} {st : State} → Done a rs n cs st
      → step_of st COMMA ≡ state_of fresh a (suc n) [] cs rs
  unfolding step_of turn_of apply class_of
  done-comma in_fresh = refl
  done-comma in_plain = refl
  done-comma in_closing = refl

  pub done-crlf : {n : ℕ} {cs : List Cell} {st : State} → Done a rs n cs st
      → runs st CRLF ≡ begin (suc (suc n)) (rs ++ row_of a n cs ∷ [])
  unfolding runs step_of turn_of apply class_of
  done-crlf in_fresh = refl
  done-crlf in_plain = refl
  done-crlf in_closing = refl

  pub done_end : {n : ℕ} {cs : List Cell} {st : State} → Done a rs n cs st
      → rows_at st ≡ Some (pick (eqb n a) rs (rs ++ row_of a n cs ∷ []))
  unfolding rows_at finish
  done_end in_fresh = refl
  done_end in_plain = refl
  done_end in_closing = refl

  pub done-as : {n m : ℕ} {cs ds : List Cell} {st : State} → n ≡ m → cs ≡ ds → Done a rs n cs st → Done a rs m ds st
  done-as {st = st} e f d = rw (← e, ← f) d

  -- (escaped / non-escaped)
  plain_done : {t : List ℕ} (n : ℕ) (cs : List Cell) → NonEscaped t
      → Done a rs (n + length t) (cs ++ unquoted t ∷ []) (runs (state_of fresh a n [] cs rs) t)
  unfolding runs turn_of apply
  plain_done n cs no_textdata = done-as (omega arith) refl in_fresh
  plain_done n cs (textdata {a = x} {s = t} h k) = rw
      (step-text fresh a n [] cs rs h, plain_runs a cs rs (suc n) (x ∷ []) k) (done-as (omega arith) refl in_plain)

  closed : (n : ℕ) (c : List ℕ) (cs : List Cell)
      → step_of (state_of quotes a n c cs rs) DQUOTE ≡ state_of closing a (suc n) c cs rs
  unfolding step_of turn_of apply class_of
  closed n c cs = refl

  opened : (n : ℕ) (cs : List Cell) → step_of (state_of fresh a n [] cs rs) DQUOTE ≡ state_of quotes a (suc n) [] cs rs
  unfolding step_of turn_of apply class_of
  opened n cs = refl

  field-done : {t : List ℕ} {c : Cell} (n : ℕ) (cs : List Cell) → Field t c
      → Done a rs (n + length t) (cs ++ c ∷ []) (runs (state_of fresh a n [] cs rs) t)
  field-done n cs (non_escaped h) = plain_done n cs h
  field-done n cs (escaped {s = s} {c = c} h) =
      rw (
        runs-more,
        opened n cs,
        runs_append (state_of quotes a (suc n) [] cs rs) s (DQUOTE ∷ []),
        inside-runs a cs rs
            (suc n) [] h,
        runs-more,
        closed (suc n + length s) c cs,
        runs_none,
      )
      (done-as (omega (arith, length-append s (DQUOTE ∷ []))) refl in_closing)

  -- field *(COMMA field)
  pub record-done : {t : List ℕ} {ds : List Cell} (n : ℕ) (cs : List Cell) → Record t ds
      → Done a rs (n + length t) (cs ++ ds) (runs (state_of fresh a n [] cs rs) t)
  record-done n cs (one_field h) = field-done n cs h
  record-done n cs (field_comma {s = s} {t = t} {c = c} {cs = ds} h k) =
      rw (runs_append, runs-more, done-comma (field-done n cs h))
      (done-as (omega (arith, length-append s (COMMA ∷ t))) (append_assoc cs (c ∷ []) ds)
      (record-done (suc (n + length s)) (cs ++ c ∷ []) k))

-- file
pub none_row : (a : ℕ) (rs : List Row) → rows_at (begin a rs) ≡ Some rs
unfolding rows_at finish
none_row a rs = rw (eq-eqb a a refl)

pub file-rows : {a : ℕ} {s : List ℕ} {out : List Row} (rs : List Row) → File a s out
    → rows_at (runs (begin a rs) s) ≡ Some (rs ++ out)
file-rows rs (no_row {a = a}) = rw (runs_none, none_row a rs, append-nil)
file-rows rs (last_row {a = a} {b = b} {s = s} {cs = cs} h) =
    let e : eqb (a + suc (length s)) a ≡ false = ne_eqb (a + suc (length s)) a (λ q. omega arith) in
    done_end a rs (record-done a rs a [] h) ∙ rw e
file-rows rs (row_crlf {a = a} {s = s} {t = t} {cs = cs} {rs = ns} h k) =
    let e : suc (suc (a + length s)) ≡ a + length (s ++ CRLF) = omega (arith, length-append s CRLF) in
    rw (
      runs_append,
      runs_append,
      done-crlf a rs (record-done a rs a [] h),
      e,
      file-rows
          (rs ++ row_of a (a + length s) cs ∷ []) k,
      append_assoc,
    )
