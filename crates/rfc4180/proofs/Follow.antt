-- How the reading of a text goes to the end of the row that it stands in.
use mathlib.Core.Path.{◌≡◌, refl}
use mathlib.Core.List.{List, [], ◌∷◌, ◌++◌}
use mathlib.Core.Logic.{◌⊎◌, inl, inr, ⊎_elim}
use Prim.Native.Nat.{ℕ, suc, ◌+◌, ◌-◌}
use native.Mathlib.Omega.{arith}
use lib.ListN.{length, length-append}
use Rattle.rfc4180.specs.Cells.{Cell, Row, row_of}
use Rattle.rfc4180.specs.Grammar.{CR, DQUOTE, LF, CRLF}
use Rattle.rfc4180.specs.Csv.{Class, class_of, Mode, fresh, plain, quotes, closing, return, stuck, Turn, pass, keep, end_cell, end_row, halt, turn_of, apply, State, state_of, ended, step_of, runs, finish, rows_at, begin}
use Rattle.rfc4180.specs.Line.{span_of, last_line, line_by, line_from}
use Rattle.rfc4180.specs.declared.Line.{Line}
use Rattle.rfc4180.specs.declared.Line.TheVariants.{Whole, Broken}
use Rattle.rfc4180.proofs.Bytes.{Seen, is_dquote, is_comma, is_cr, is_lf, is_plain_text, is_other, seen}
use Rattle.rfc4180.proofs.Computed.{Done, in_fresh, in_plain, in_closing, done-as, runs_append, runs_none}
use Rattle.std.specs.Prelude.{Some, None}

-- a text that may follow makes rows
pub record Live (st : State) : Type 0 where
  pub rest : List ℕ
  pub rows : List Row
  pub read : rows_at (runs st rest) ≡ Some rows

-- the row ends where the text ends, or at a CRLF; or it breaks at a byte after which nothing helps, or where the text
-- stops. The row starts at a, the rows before it are rs, and the text s is at p
pub data Reads (a : ℕ) (rs : List Row) (p : ℕ) (st : State) (s : List ℕ) : Line → Type 0 where
  to_end : {q n : ℕ} {cs : List Cell} → q ≡ p + length s → n ≡ length cs → Done a rs q cs (runs st s)
      → Reads a rs p st s (Whole (span_of q q n))
  to_crlf : (t u : List ℕ) {q r n : ℕ} {cs : List Cell} → s ≡ t ++ CRLF ++ u → q ≡ p + length t → r ≡ q + 2
      → n ≡ length cs → Done a rs q cs (runs st t) → Reads a rs p st s (Whole (span_of q r n))
  to_stuck : (t : List ℕ) (b : ℕ) (u : List ℕ) {q : ℕ} → s ≡ t ++ b ∷ u → q ≡ p + length t → Live (runs st t)
      → (runs st (t ++ b ∷ [])).mode ≡ stuck → Reads a rs p st s (Broken q)
  to_cut : {q : ℕ} → q ≡ p + length s → Live (runs st s) → rows_at (runs st s) ≡ None → Reads a rs p st s (Broken q)

-- the modes in which a row goes on, and those in which a cell may end
data Going : Mode → Type 0 where
  is_fresh : Going fresh
  is_plain : Going plain
  is_quotes : Going quotes
  is_closing : Going closing

data MayEnd : Mode → Type 0 where
  end_fresh : MayEnd fresh
  end_plain : MayEnd plain
  end_closing : MayEnd closing

-- what a byte does where a row goes on
data Turning (m : Mode) (b : ℕ) : Turn → Type 0 where
  passes : {m' : Mode} → Going m' → Turning m b (pass m')
  keeps : {m' : Mode} → Going m' → Turning m b (keep m')
  ends_cell : Turning m b end_cell
  ends_row : MayEnd m → b ≡ CR → Turning m b end_row
  halts : Turning m b halt

turn-seen : {m : Mode} {b : ℕ} {k : Class} → Going m → Seen b k → Turning m b (turn_of m k)
unfolding turn_of
turn-seen is_fresh is_dquote = passes is_quotes
turn-seen is_fresh is_comma = ends_cell
turn-seen is_fresh is_cr = ends_row end_fresh refl
turn-seen is_fresh is_lf = halts
turn-seen is_fresh (is_plain_text h) = keeps is_plain
turn-seen is_fresh is_other = halts
turn-seen is_plain is_dquote = halts
turn-seen is_plain is_comma = ends_cell
turn-seen is_plain is_cr = ends_row end_plain refl
turn-seen is_plain is_lf = halts
turn-seen is_plain (is_plain_text h) = keeps is_plain
turn-seen is_plain is_other = halts
turn-seen is_quotes is_dquote = passes is_closing
turn-seen is_quotes is_comma = keeps is_quotes
turn-seen is_quotes is_cr = keeps is_quotes
turn-seen is_quotes is_lf = keeps is_quotes
turn-seen is_quotes (is_plain_text h) = keeps is_quotes
turn-seen is_quotes is_other = halts
turn-seen is_closing is_dquote = keeps is_quotes
turn-seen is_closing is_comma = ends_cell
turn-seen is_closing is_cr = ends_row end_closing refl
turn-seen is_closing is_lf = halts
turn-seen is_closing (is_plain_text h) = halts
turn-seen is_closing is_other = halts

after-cr : {x : ℕ} {k : Class} → Seen x k → (x ≡ LF) ⊎ (turn_of return k ≡ halt)
unfolding turn_of
after-cr is_dquote = inr refl
after-cr is_comma = inr refl
after-cr is_cr = inr refl
after-cr is_lf = inl refl
after-cr (is_plain_text h) = inr refl
after-cr is_other = inr refl

stuck-now : (st : State) (b : ℕ) → step_of st b ≡ apply halt b st → (runs st (b ∷ [])).mode ≡ stuck
unfolding runs apply
stuck-now st b e = rw e

module _ (a : ℕ) (rs : List Row) where
  -- where the text ends
  still-live : {m : Mode} (p : ℕ) (c : List ℕ) (cs : List Cell) → Going m → Live (state_of m a p c cs rs)
  unfolding runs step_of turn_of apply class_of rows_at finish
  still-live p c cs is_fresh = record { rest = []; rows = _; read = refl }
  still-live p c cs is_plain = record { rest = []; rows = _; read = refl }
  still-live p c cs is_quotes = record { rest = DQUOTE ∷ []; rows = _; read = refl }
  still-live p c cs is_closing = record { rest = []; rows = _; read = refl }

  done-here : {m : Mode} (p : ℕ) (c : List ℕ) (cs : List Cell) → MayEnd m
      → Done a rs p (cs ++ ended m c ∷ []) (state_of m a p c cs rs)
  done-here p c cs end_fresh = in_fresh
  done-here p c cs end_plain = in_plain
  done-here p c cs end_closing = in_closing

  one_cell : (cs : List Cell) (c : Cell) {n : ℕ} → n ≡ length cs → suc n ≡ length (cs ++ c ∷ [])
  one_cell cs c e = omega (arith, length-append cs (c ∷ []))

  at-end : {m : Mode} (p : ℕ) (c : List ℕ) (cs : List Cell) (n : ℕ) → Going m → n ≡ length cs
      → Reads a rs p (state_of m a p c cs rs) [] (last_line m n p)
  unfolding last_line runs rows_at finish
  at-end p c cs n g h = go g
    where
      here : p ≡ p + 0
      here = omega arith

      go : {m : Mode} → Going m → Reads a rs p (state_of m a p c cs rs) [] (last_line m n p)
      go is_fresh = to_end here (one_cell cs _ h) (done-here p c cs end_fresh)
      go is_plain = to_end here (one_cell cs _ h) (done-here p c cs end_plain)
      go is_quotes = to_cut here (still-live p c cs is_quotes) refl
      go is_closing = to_end here (one_cell cs _ h) (done-here p c cs end_closing)

  -- one byte before
  reads_more : {p : ℕ} {st : State} {s : List ℕ} {o : Line} (b : ℕ) → Reads a rs (suc p) (step_of st b) s o
      → Reads a rs p st (b ∷ s) o
  unfolding runs
  reads_more {p} {st} {s} b (to_end {q = q} e h d) =
      let f : q ≡ p + suc (length s) = omega arith in
      to_end f h d
  reads_more {p} b (to_crlf t u {q = q} e g r h d) =
      let f : q ≡ p + suc (length t) = omega arith in
      to_crlf (b ∷ t) u (rw e) f r h d
  reads_more {p} b (to_stuck t x u {q = q} e g l k) =
      let f : q ≡ p + suc (length t) = omega arith in
      to_stuck (b ∷ t) x u (rw e) f l k
  reads_more {p} {st} {s} b (to_cut {q = q} e l k) =
      let f : q ≡ p + suc (length s) = omega arith in
      to_cut f l k

  -- at a CR where a cell may end
  cr-step : {m : Mode} (p : ℕ) (c : List ℕ) (cs : List Cell) → MayEnd m
      → runs (state_of m a p c cs rs) (CR ∷ []) ≡ state_of return a (suc p) [] []
      (rs ++ row_of a p (cs ++ ended m c ∷ []) ∷ [])
  unfolding runs step_of turn_of apply class_of
  cr-step p c cs end_fresh = refl
  cr-step p c cs end_plain = refl
  cr-step p c cs end_closing = refl

  live-cr : (p : ℕ) (qs : List Row) → Live (state_of return a p [] [] qs)
  unfolding runs step_of turn_of apply class_of rows_at finish
  live-cr p qs = record { rest = LF ∷ []; rows = _; read = refl }

  no-lf : (p : ℕ) (qs : List Row) → rows_at (state_of return a p [] [] qs) ≡ None
  unfolding rows_at finish
  no-lf p qs = refl

  stuck-after : (x p : ℕ) (qs : List Row) → turn_of return (class_of x) ≡ halt
      → (runs (state_of return a p [] [] qs) (x ∷ [])).mode ≡ stuck
  unfolding runs step_of apply
  stuck-after x p qs e = rw e

  at-lf : {m : Mode} (p : ℕ) (c : List ℕ) (cs : List Cell) (n : ℕ) (u : List ℕ) → MayEnd m → n ≡ length cs
      → Reads a rs p (state_of m a p c cs rs) (CR ∷ LF ∷ u) (line_from (LF ∷ u) return (suc n) (suc p))
  unfolding line_from line_by turn_of class_of runs
  at-lf p c cs n u m h =
      let f : suc p - 1 ≡ p + 0 = omega arith in
      let g : suc (suc p) ≡ (suc p - 1) + 2 = omega arith in
      let k : p ≡ suc p - 1 = omega arith in
      to_crlf [] u refl f g (one_cell cs _ h) (done-as a rs k refl (done-here p c cs m))

  at_other : {m : Mode} (p : ℕ) (c : List ℕ) (cs : List Cell) (n x : ℕ) (u : List ℕ) → MayEnd m
      → turn_of return (class_of x) ≡ halt
      → Reads a rs p (state_of m a p c cs rs) (CR ∷ x ∷ u) (line_from (x ∷ u) return (suc n) (suc p))
  unfolding line_from line_by
  at_other {m} p c cs n x u k e =
      let f : suc p ≡ p + 1 = omega arith in
      let g : (runs (state_of m a p c cs rs) (CR ∷ x ∷ [])).mode ≡ stuck
      = rw (runs_append (state_of m a p c cs rs) (CR ∷ []) (x ∷ []), cr-step p c cs k) (stuck-after x (suc p) _ e) in
      rw e (to_stuck (CR ∷ []) x u refl f (rw (cr-step p c cs k) (live-cr (suc p) _)) g)

  at-cr : {m : Mode} (p : ℕ) (c : List ℕ) (cs : List Cell) (n : ℕ) (s : List ℕ) → MayEnd m → n ≡ length cs
      → Reads a rs p (state_of m a p c cs rs) (CR ∷ s) (line_from s return (suc n) (suc p))
  unfolding line_from last_line
  at-cr p c cs n [] m h =
      let f : suc p ≡ p + 1 = omega arith in
      to_cut f (rw (cr-step p c cs m) (live-cr (suc p) _)) (rw (cr-step p c cs m) (no-lf (suc p) _))
  at-cr p c cs n (x ∷ u) m h = ⊎_elim
      (λ (e : x ≡ LF). rw e (at-lf p c cs n u m h))
      (λ (e : turn_of return (class_of x) ≡ halt). at_other p c cs n x u m e)
      (after-cr (seen x))

one-turn : {a : ℕ} {rs : List Row} {m : Mode} {b p : ℕ} {c s : List ℕ} {cs : List Cell} {n : ℕ} {t : Turn}
    → n ≡ length cs
    → Going m → step_of (state_of m a p c cs rs) b ≡ apply t b (state_of m a p c cs rs)
    → ((m' : Mode) (c' : List ℕ) (cs' : List Cell) (n' : ℕ) → Going m' → n' ≡ length cs' → Reads a rs (suc p)
    (state_of m' a (suc p) c' cs' rs) s (line_from s m' n' (suc p)))
    → Turning m b t → Reads a rs p (state_of m a p c cs rs) (b ∷ s) (line_by t n p (λ m' n'. line_from s m' n' (suc p)))
unfolding line_by apply
one-turn {a} {rs} {m} {b} {p} {c} {s} {cs} {n} h l e ih (passes {m' = m'} g) = reads_more a rs b
    (rw e (ih m' c cs n g h))
one-turn {a} {rs} {m} {b} {p} {c} {s} {cs} {n} h l e ih (keeps {m' = m'} g) = reads_more a rs b
    (rw e (ih m' (c ++ b ∷ []) cs n g h))
one-turn {a} {rs} {m} {b} {p} {c} {s} {cs} {n} h l e ih ends_cell =
    reads_more a rs b (rw e (ih fresh [] (cs ++ ended m c ∷ []) (suc n) is_fresh (one_cell a rs cs _ h)))
one-turn {a} {rs} {m} {b} {p} {c} {s} {cs} {n} h l e ih (ends_row k r) = rw r (at-cr a rs p c cs n s k h)
one-turn {a} {rs} {m} {b} {p} {c} {s} {cs} {n} h l e ih halts =
    let f : p ≡ p + 0 = omega arith in
    to_stuck [] b s refl f (rw runs_none (still-live a rs p c cs l)) (stuck-now _ b e)

-- the row that the reading stands in ends as `line_from` says
follow : {m : Mode} (s : List ℕ) (a : ℕ) (rs : List Row) (p : ℕ) (c : List ℕ) (cs : List Cell) (n : ℕ) → Going m
    → n ≡ length cs
    → Reads a rs p (state_of m a p c cs rs) s (line_from s m n p)
unfolding line_from step_of
follow [] a rs p c cs n g h = at-end a rs p c cs n g h
follow (b ∷ s) a rs p c cs n g h = one-turn h g refl (λ m' c' cs' n' g' h'. follow s a rs (suc p) c' cs' n' g' h')
    (turn-seen g (seen b))

pub row_reads : (s : List ℕ) (a : ℕ) → Reads a [] a (begin a []) s (line_from s fresh 0 a)
row_reads s a = follow s a [] a [] [] 0 is_fresh refl
