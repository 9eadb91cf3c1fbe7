-- A text that is read to rows is of the grammar, with these rows.
use mathlib.Core.Path.{◌≡◌, refl}
use mathlib.Core.List.{List, [], ◌∷◌, ◌++◌, append_assoc, append-nil}
use Prim.Native.Nat.{ℕ, suc, ◌+◌}
use native.Mathlib.Omega.{arith}
use lib.Dec.{eqb}
use lib.ListN.{length, length-append}
use borrow.Author.Tests.{eq-eqb, ne_eqb}
use Rattle.lists.specs.Lists.{pick}
use Rattle.rfc4180.specs.Cells.{Cell, Row, row_of}
use Rattle.rfc4180.specs.Grammar.{COMMA, CR, DQUOTE, LF, CRLF, NonEscaped, no_textdata, textdata, Inside, nothing, a_textdata, a_comma, a_cr, a_lf, a_2dquote, Field, escaped, non_escaped, Record, one_field, field_comma, File, no_row, last_row, row_crlf}
use Rattle.rfc4180.specs.Csv.{Class, fresh, plain, quotes, closing, return, stuck, State, state_of, begin, turn_of, apply, step_by, step_of, runs, finish, rows_at}
use Rattle.rfc4180.proofs.Bytes.{Seen, is_dquote, is_comma, is_cr, is_lf, is_plain_text, is_other, seen}
use Rattle.std.specs.Prelude.{Some, None}

-- ---- parts put together
non-escaped-join : {s t : List ℕ} → NonEscaped s → NonEscaped t → NonEscaped (s ++ t)
non-escaped-join no_textdata k = k
non-escaped-join (textdata h r) k = textdata h (non-escaped-join r k)

inside-join : {s c t d : List ℕ} → Inside s c → Inside t d → Inside (s ++ t) (c ++ d)
inside-join nothing k = k
inside-join (a_textdata h r) k = a_textdata h (inside-join r k)
inside-join (a_comma r) k = a_comma (inside-join r k)
inside-join (a_cr r) k = a_cr (inside-join r k)
inside-join (a_lf r) k = a_lf (inside-join r k)
inside-join (a_2dquote r) k = a_2dquote (inside-join r k)

-- ---- what was read, of a text that begins at o
module _ (o : ℕ) where
  -- lines and their rows, to stand before a file; fields and their commas, to stand before a record
  record LinesBefore (l : List ℕ) (a : ℕ) (rs : List Row) : Type 0 where
    before : (s : List ℕ) (out : List Row) → File a s out → File o (l ++ s) (rs ++ out)

  record FieldsBefore (f : List ℕ) (cs : List Cell) : Type 0 where
    before : (t : List ℕ) (ds : List Cell) → Record t ds → Record (f ++ t) (cs ++ ds)

  no_lines : LinesBefore [] o []
  no_lines = record { before = λ s out h. h }

  no_fields : FieldsBefore [] []
  no_fields = record { before = λ t ds h. h }

  one-more-field : {f t : List ℕ} {cs : List Cell} {c : Cell} → FieldsBefore f cs → Field t c
      → FieldsBefore (f ++ (t ++ COMMA ∷ [])) (cs ++ c ∷ [])
  one-more-field {f} {t} {cs} {c} h k = record
      { before = λ u ds r. simp append_assoc (h.before (t ++ COMMA ∷ u) (c ∷ ds) (field_comma k r)) }

  whole-record : {f t : List ℕ} {cs : List Cell} {c : Cell} → FieldsBefore f cs → Field t c
      → Record (f ++ t) (cs ++ c ∷ [])
  whole-record {t = t} {c = c} h k = h.before t (c ∷ []) (one_field k)

  one-more-line : {l t : List ℕ} {a b : ℕ} {rs : List Row} {cs : List Cell} → LinesBefore l a rs → Record t cs
      → b ≡ a + length (t ++ CRLF)
      → LinesBefore (l ++ (t ++ CRLF)) b (rs ++ row_of a (a + length t) cs ∷ [])
  one-more-line {l} {t} {a} {b} {rs} {cs} h k e = record {
    before = λ s out r. rw (append_assoc l (t ++ CRLF) s, append_assoc rs (row_of a (a + length t) cs ∷ []) out)
        (h.before (t ++ CRLF ++ s) (row_of a (a + length t) cs ∷ out) (row_crlf k (rw e at r)));
  }

  -- the text read so far: lines, fields and their commas, and a part of a field. The row starts at a, and the next byte
  -- is at n
  record Stands (p t : List ℕ) (a n : ℕ) (cs : List Cell) (rs : List Row) : Type 0 where
    l : List ℕ
    f : List ℕ
    whole : p ≡ l ++ (f ++ t)
    size : n ≡ a + length (f ++ t)
    lines : LinesBefore l a rs
    fields : FieldsBefore f cs

  stands-more : {p t : List ℕ} {a n : ℕ} {cs : List Cell} {rs : List Row} (b : ℕ) → Stands p t a n cs rs
      → Stands (p ++ b ∷ []) (t ++ b ∷ []) a (suc n) cs rs
  stands-more {t = t} b h = record {
    l = h.l;
    f = h.f;
    whole = rw h.whole (simp append_assoc);
    size = omega (arith, h.size, length-append h.f t, length-append h.f (t ++ b ∷ []), length-append t (b ∷ []));
    lines = h.lines;
    fields = h.fields;
  }

  -- lines, a record of n - a bytes, and what follows it
  record Ends (p t : List ℕ) (a n : ℕ) (cs : List Cell) (rs : List Row) : Type 0 where
    l : List ℕ
    s : List ℕ
    whole : p ≡ l ++ (s ++ t)
    size : n ≡ a + length s
    lines : LinesBefore l a rs
    cells : Record s cs

  -- a field ends: at a comma, at a CR, where the text ends
  module _ {p t : List ℕ} {a n : ℕ} {cs : List Cell} {c : Cell} {rs : List Row} (h : Stands p t a n cs rs)
      (k : Field t c) where
    by-comma : Stands (p ++ COMMA ∷ []) [] a (suc n) (cs ++ c ∷ []) rs
    by-comma = record {
      l = h.l;
      f = h.f ++ (t ++ COMMA ∷ []);
      whole = rw h.whole (simp (append_assoc, append-nil));
      size = omega (
        arith,
        h.size,
        length-append h.f t,
        length-append h.f (t ++ COMMA ∷ []),
        length-append t
            (COMMA ∷ []),
        length-append (h.f ++ (t ++ COMMA ∷ [])) [],
      );
      lines = h.lines;
      fields = one-more-field h.fields k;
    }

    by_end : Ends p [] a n (cs ++ c ∷ []) rs
    by_end = record {
      l = h.l;
      s = h.f ++ t;
      whole = rw append-nil h.whole;
      size = h.size;
      lines = h.lines;
      cells = whole-record h.fields k;
    }

  ends_more : {p t : List ℕ} {a n : ℕ} {cs : List Cell} {rs : List Row} (b : ℕ) → Ends p t a n cs rs
      → Ends (p ++ b ∷ []) (t ++ b ∷ []) a n cs rs
  ends_more b h = record {
    l = h.l;
    s = h.s;
    whole = rw h.whole (simp append_assoc);
    size = h.size;
    lines = h.lines;
    cells = h.cells;
  }

  by-crlf : {p : List ℕ} {a n : ℕ} {cs : List Cell} {rs : List Row} → Ends p CRLF a n cs rs
      → Stands p [] (suc (suc n)) (suc (suc n)) [] (rs ++ row_of a n cs ∷ [])
  by-crlf {a = a} {n = n} {cs = cs} {rs = rs} h = record {
    l = h.l ++ (h.s ++ CRLF);
    f = [];
    whole = rw append-nil h.whole;
    size = omega arith;
    lines = rw h.size (one-more-line h.lines h.cells (omega (arith, length-append h.s CRLF)));
    fields = no_fields;
  }

  -- what a state says of the text read so far
  data Upto (p : List ℕ) : State → Type 0 where
    at_fresh : {a n : ℕ} {cs : List Cell} {rs : List Row} → Stands p [] a n cs rs → Upto p (state_of fresh a n [] cs rs)
    at_plain : {t : List ℕ} {a n : ℕ} {cs : List Cell} {rs : List Row} → Stands p t a n cs rs → NonEscaped t
        → Upto p (state_of plain a n t cs rs)
    at_quotes : {t c : List ℕ} {a n : ℕ} {cs : List Cell} {rs : List Row} → Stands p (DQUOTE ∷ t) a n cs rs
        → Inside t c → Upto p (state_of quotes a n c cs rs)
    at_closing : {t c : List ℕ} {a n : ℕ} {cs : List Cell} {rs : List Row}
        → Stands p (DQUOTE ∷ (t ++ DQUOTE ∷ [])) a n cs rs → Inside t c → Upto p (state_of closing a n c cs rs)
    at_return : {a n : ℕ} {cs : List Cell} {rs : List Row} → Ends p (CR ∷ []) a n cs rs
        → Upto p (state_of return a (suc n) [] [] (rs ++ row_of a n cs ∷ []))
    at_stuck : {a n : ℕ} {c : List ℕ} {cs : List Cell} {rs : List Row} → Upto p (state_of stuck a n c cs rs)

  one-step : {p : List ℕ} {b : ℕ} {st : State} {k : Class} → Upto p st → Seen b k
      → Upto (p ++ b ∷ []) (step_by st.mode k b st)
  unfolding turn_of apply
  one-step (at_fresh h) is_dquote = at_quotes (stands-more DQUOTE h) nothing
  one-step (at_fresh h) is_comma = at_fresh (by-comma h (non_escaped no_textdata))
  one-step (at_fresh h) is_cr = at_return (ends_more CR (by_end h (non_escaped no_textdata)))
  one-step (at_fresh h) is_lf = at_stuck
  one-step (at_fresh h) (is_plain_text {b = b} q) = at_plain (stands-more b h) (textdata q no_textdata)
  one-step (at_fresh h) is_other = at_stuck
  one-step (at_plain h r) is_dquote = at_stuck
  one-step (at_plain h r) is_comma = at_fresh (by-comma h (non_escaped r))
  one-step (at_plain h r) is_cr = at_return (ends_more CR (by_end h (non_escaped r)))
  one-step (at_plain h r) is_lf = at_stuck
  one-step (at_plain h r) (is_plain_text {b = b} q) = at_plain (stands-more b h) (non-escaped-join r (textdata q no_textdata))
  one-step (at_plain h r) is_other = at_stuck
  one-step (at_quotes h r) is_dquote = at_closing (stands-more DQUOTE h) r
  one-step (at_quotes h r) is_comma = at_quotes (stands-more COMMA h) (inside-join r (a_comma nothing))
  one-step (at_quotes h r) is_cr = at_quotes (stands-more CR h) (inside-join r (a_cr nothing))
  one-step (at_quotes h r) is_lf = at_quotes (stands-more LF h) (inside-join r (a_lf nothing))
  one-step (at_quotes h r) (is_plain_text {b = b} q) = at_quotes (stands-more b h) (inside-join r (a_textdata q nothing))
  one-step (at_quotes h r) is_other = at_stuck
  one-step (at_closing {t = t} h r) is_dquote = at_quotes (rw append_assoc at (stands-more DQUOTE h))
      (inside-join r (a_2dquote nothing))
  one-step (at_closing h r) is_comma = at_fresh (by-comma h (escaped r))
  one-step (at_closing h r) is_cr = at_return (ends_more CR (by_end h (escaped r)))
  one-step (at_closing h r) is_lf = at_stuck
  one-step (at_closing h r) (is_plain_text q) = at_stuck
  one-step (at_closing h r) is_other = at_stuck
  one-step (at_return h) is_dquote = at_stuck
  one-step (at_return h) is_comma = at_stuck
  one-step (at_return h) is_cr = at_stuck
  one-step (at_return h) is_lf = at_fresh (by-crlf (ends_more LF h))
  one-step (at_return h) (is_plain_text q) = at_stuck
  one-step (at_return h) is_other = at_stuck
  one-step at_stuck k = at_stuck

  -- ---- the whole text
  run-upto : {p : List ℕ} {st : State} (s : List ℕ) → Upto p st → Upto (p ++ s) (runs st s)
  unfolding runs step_of
  run-upto {p} [] h = rw append-nil h
  run-upto {p} {st} (b ∷ s) h = rw (append_assoc p (b ∷ []) s) at (run-upto {p = p ++ b ∷ []} s (one-step h (seen b)))

  last_of : {l : List ℕ} {a n : ℕ} {cs : List Cell} {rs : List Row} (s : List ℕ) → n ≡ a + length s
      → LinesBefore l a rs → Record s cs → File o (l ++ s) (pick (eqb n a) rs (rs ++ row_of a n cs ∷ []))
  last_of {a = a} {n = n} {rs = rs} [] e h k = rw (eq-eqb n a (omega arith))
      (rw (append-nil rs) at (h.before [] [] no_row))
  last_of {a = a} {n = n} {cs = cs} (b ∷ s) e h k =
      rw (ne_eqb n a (λ q. omega arith), e) (h.before (b ∷ s) (row_of a (a + length (b ∷ s)) cs ∷ []) (last_row k))

  by_last : {p : List ℕ} {a n : ℕ} {cs : List Cell} {rs : List Row} {out : List Row} → Ends p [] a n cs rs
      → Some (pick (eqb n a) rs (rs ++ row_of a n cs ∷ [])) ≡ Some out → File o p out
  by_last {a = a} {n = n} {cs = cs} {rs = rs} {out = out} h e =
      let g : pick (eqb n a) rs (rs ++ row_of a n cs ∷ []) ≡ out = cc in
      rw (← g, h.whole, append-nil h.s) (last_of h.s h.size h.lines h.cells)

  no_rows : {A : Type 0} {out : List Row} → None ≡ Some out → A
  no_rows e = let z : ◌≡◌ {A = ℕ} 0 1 = cc in absurd (omega arith)

  at-end : {p : List ℕ} {st : State} {out : List Row} → Upto p st → rows_at st ≡ Some out → File o p out
  unfolding rows_at finish
  at-end (at_fresh h) e = by_last (by_end h (non_escaped no_textdata)) e
  at-end (at_plain h r) e = by_last (by_end h (non_escaped r)) e
  at-end (at_quotes h r) e = no_rows e
  at-end (at_closing h r) e = by_last (by_end h (escaped r)) e
  at-end (at_return h) e = no_rows e
  at-end at_stuck e = no_rows e

  pub rows-file : (s : List ℕ) {out : List Row} → rows_at (runs (begin o []) s) ≡ Some out → File o s out
  rows-file s e = at-end (run-upto s (at_fresh start)) e
    where
      start : Stands [] [] o o [] []
      start = record { l = []; f = []; whole = refl; size = omega arith; lines = no_lines; fields = no_fields }
