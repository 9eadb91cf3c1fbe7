-- What is found at a place is the row that begins there, the place where the text breaks, or its end.
use mathlib.Core.Path.{◌≡◌, ◌∙◌, refl, sym, ap}
use mathlib.Core.List.Memᴰ
use mathlib.Core.List.{List, [], ◌∷◌, ◌++◌, append_assoc}
use mathlib.Core.Logic.{⊎_elim}
use Prim.Native.Nat.{ℕ, suc, ◌+◌, ◌-◌, ◌≤◌, ◌<◌}
use native.Mathlib.Omega.{arith}
use lib.ListN.{length, length-append, length-drop, take, drop, replicate, length-replicate}
use lib.Seq.{take_all, drop_at, drop-drop, take-append_seam, append_snoc}
use borrow.Author.Tests.{lt-ltb, le-ltb}
use Rattle.lists.proofs.Laws.{rest-none}
use Rattle.lists.proofs.Tests.{below}
use Rattle.rfc4180.specs.Cells.{Cell, Row, row_of}
use Rattle.rfc4180.specs.Grammar.{CRLF, Record, ABNF}
use Rattle.rfc4180.specs.Csv.{Mode, stuck, State, begin, runs, step_of, turn_of, apply, finish, rows_at, rows_from, fresh}
use Rattle.rfc4180.specs.Line.{line_from, line_at}
use Rattle.rfc4180.specs.RowHere.{with_crlf, with_text, RowHere, Breaks}
use Rattle.rfc4180.specs.declared.Span.{Span}
use Rattle.rfc4180.specs.declared.Line.{Line}
use Rattle.rfc4180.specs.declared.Line.TheVariants.{Whole, End, Broken}
use Rattle.rfc4180.proofs.Agree.{agree-from, read-abnf, broken-from}
use Rattle.rfc4180.proofs.Spans.{spans}
use Rattle.rfc4180.proofs.Computed.{Done, done-crlf, none_row, runs_append, runs_none}
use Rattle.rfc4180.proofs.Follow.{Live, Reads, to_end, to_crlf, to_stuck, to_cut, row_reads}
use Rattle.rfc4180.proofs.Placed.{row_line, row-begins, break-stops}
use Rattle.std.specs.Prelude.{Some, None}

-- ---- whole rows
-- where a cell may end after a row's text, the text is a record
done-record : {a q : ℕ} {t : List ℕ} {cs : List Cell} → q ≡ a + length t → Done a [] q cs (runs (begin a []) t)
    → Record t cs
unfolding rows_from
done-record {a} {q} {t} {cs} e d =
    let f : rows_from a (t ++ CRLF) ≡ Some (row_of a q cs ∷ [])
    = rw (runs_append (begin a []) t CRLF, done-crlf a [] d) (none_row (suc (suc q)) (row_of a q cs ∷ [])) in
    let g : q - a ≡ length t = omega arith in
    let h : Record (take (q - a) (drop a (replicate a 0 ++ (t ++ CRLF)))) cs
    = (spans (replicate a 0) (length-replicate a 0) ((agree-from a (t ++ CRLF) _).0 f) (row_of a q cs)
    (Memᴰ.head refl)).holds in
    rw (g, drop_at (replicate a 0) (t ++ CRLF) a (length-replicate a 0), take-append_seam t CRLF) at h

module _ (s : List ℕ) (a : ℕ) (l : a < length s) where
  size : length (drop a s) ≡ length s - a
  size = length-drop a s

  whole : {sp : Span} → Reads a [] a (begin a []) (drop a s) (Whole sp) → RowHere s a sp
  whole (to_end {q = q} {n = n} {cs = cs} e h d) =
      let m : length (drop a s) ≤ q - a = omega arith in
      record {
        forward = omega arith;
        within = omega (arith, size);
        fields = cs;
        holds = rw (take_all (q - a) (drop a s) m) (done-record e d);
        count = sym h;
        ends = with_text l (omega (arith, size)) (omega (arith, size));
      }
  whole (to_crlf t u {q = q} {r = r} {n = n} {cs = cs} e f g h d) =
      let z : length (drop a s) ≡ length t + 2 + length u = rw e
      (omega (arith, length-append (t ++ CRLF) u, length-append t CRLF)) in
      let m : q - a ≡ length t = omega arith in
      let k : drop q s ≡ CRLF ++ u = rw (f, ← drop-drop (length t) a s, e, append_assoc t CRLF u)
      (drop_at t (CRLF ++ u) (length t) refl) in
      record {
        forward = omega arith;
        within = omega (arith, size);
        fields = cs;
        holds = rw (m, e, append_assoc t CRLF u, take-append_seam t (CRLF ++ u)) (done-record f d);
        count = sym h;
        ends = with_crlf (rw k) g;
      }

-- ---- where it breaks
stuck-end : (m : Mode) (st : State) → m ≡ stuck → finish m st ≡ None
unfolding finish
stuck-end m st e = rw e

stuck-on : (st : State) (b : ℕ) → st.mode ≡ stuck → (step_of st b).mode ≡ stuck
unfolding step_of turn_of apply
stuck-on st b e = rw e

-- once broken, nothing helps
stuck-stays : (s : List ℕ) (st : State) → st.mode ≡ stuck → rows_at (runs st s) ≡ None
unfolding rows_at runs
stuck-stays [] st e = stuck-end st.mode st e
stuck-stays (b ∷ s) st e = stuck-stays s (step_of st b) (stuck-on st b e)

module _ (a : ℕ) (t : List ℕ) where
  may-go : (h : Live (runs (begin a []) t)) → ABNF (t ++ h.rest)
  unfolding rows_from
  may-go h = read-abnf a (t ++ h.rest) {rs = h.rows} (rw (runs_append (begin a []) t h.rest) h.read)

  none_after : (runs (begin a []) t).mode ≡ stuck → (q : List ℕ) → rows_from a (t ++ q) ≡ None
  unfolding rows_from
  none_after e q = rw (runs_append (begin a []) t q) (stuck-stays q (runs (begin a []) t) e)

module _ (s : List ℕ) (a : ℕ) (l : a < length s) where
  line-here : line_at s a ≡ line_from (drop a s) fresh 0 a
  unfolding line_at
  line-here = rw (lt-ltb a (length s) l)

  read-line : {o : Line} → line_at s a ≡ o → Reads a [] a (begin a []) (drop a s) o
  read-line {o} e =
      let f : line_from (drop a s) fresh 0 a ≡ o = sym line-here ∙ e in
      rw f at (row_reads (drop a s) a)

  broken-here : {p : ℕ} → ((sp : Span) → RowHere s a sp → ⊥) → Reads a [] a (begin a []) (drop a s) (Broken p)
      → Breaks s a p
  unfolding rows_from
  broken-here w (to_stuck t b u {q = q} e f h k) =
      let z : length (drop a s) ≡ length t + suc (length u) = rw e (length-append t (b ∷ u)) in
      let m : q - a ≡ length t = omega arith in
      let n : q + 1 - a ≡ length (t ++ b ∷ []) = omega (arith, length-append t (b ∷ [])) in
      let y : drop a s ≡ (t ++ b ∷ []) ++ u = e ∙ sym (append_snoc t b u) in
      record {
        begins = l;
        forward = omega arith;
        within = omega (arith, size s a l);
        rest = h.rest;
        goes = rw (m, e, take-append_seam t (b ∷ u)) (may-go a t h);
        stops = λ x r. rw (n, y, take-append_seam (t ++ b ∷ []) u)
            ((broken-from a ((t ++ b ∷ []) ++ r)).0 (none_after a (t ++ b ∷ []) k r));
        cut = λ x. absurd (omega (arith, size s a l));
        no_row = w;
      }
  broken-here w (to_cut {q = q} e h k) =
      let m : length (drop a s) ≤ q - a = omega arith in
      record {
        begins = l;
        forward = omega arith;
        within = omega (arith, size s a l);
        rest = h.rest;
        goes = rw (take_all (q - a) (drop a s) m) (may-go a (drop a s) h);
        stops = λ x. absurd (omega (arith, size s a l));
        cut = λ x. rw (take_all (q - a) (drop a s) m) ((broken-from a (drop a s)).0 k);
        no_row = w;
      }

no_end : {a p : ℕ} {rs : List Row} {st : State} {l : List ℕ} {o : Line} → Reads a rs p st l o → o ≡ End → ⊥
no_end (to_end e h d) f = let z : ◌≡◌ {A = ℕ} 0 1 = cc in omega arith
no_end (to_crlf t u e q r h d) f = let z : ◌≡◌ {A = ℕ} 0 1 = cc in omega arith
no_end (to_stuck t b u e q h k) f = let z : ◌≡◌ {A = ℕ} 0 1 = cc in omega arith
no_end (to_cut e h k) f = let z : ◌≡◌ {A = ℕ} 0 1 = cc in omega arith

-- ---- from row to row, for every text and place
module _ (s : List ℕ) (a : ℕ) where
  none-begins : length s ≤ a → line_at s a ≡ End
  unfolding line_at
  none-begins h = rw (le-ltb a (length s) h)

  ended : line_at s a ≡ End → length s ≤ a
  ended e = ⊎_elim
      (λ (l : a < length s). absurd (no_end (read-line s a l e) refl))
      (λ (l : length s ≤ a). l)
      (below a (length s))

  -- nothing begins at a place exactly when the text ends there or before
  pub line-end : (line_at s a ≡ End → length s ≤ a) × (length s ≤ a → line_at s a ≡ End)
  line-end = (ended, none-begins)

  -- and there are no rows from there on
  pub none_left : length s ≤ a → rows_from a (drop a s) ≡ Some []
  unfolding rows_from
  none_left h = rw (rest-none s a h, runs_none) (none_row a [])

  begun : {sp : Span} → line_at s a ≡ Whole sp → RowHere s a sp
  begun {sp} e = ⊎_elim
      (λ (l : a < length s). whole s a l (read-line s a l e))
      (λ (l : length s ≤ a). let h = none-begins l in let z : ◌≡◌ {A = ℕ} 0 1 = cc in absurd (omega arith))
      (below a (length s))

  found : {sp : Span} → RowHere s a sp → line_at s a ≡ Whole sp
  found h = line-here s a (row-begins h) ∙ row_line h

  -- the row that is found at a place is the row that begins there
  pub line-whole : (sp : Span) → (line_at s a ≡ Whole sp → RowHere s a sp) × (RowHere s a sp → line_at s a ≡ Whole sp)
  line-whole sp = (begun, found)

  -- at most one row begins at a place
  pub one-row : {sp tp : Span} → RowHere s a sp → RowHere s a tp → sp ≡ tp
  one-row h k = let e = found h in let f = found k in cc

  broke : {p : ℕ} → line_at s a ≡ Broken p → Breaks s a p
  broke {p} e = ⊎_elim
      (λ (l : a < length s). broken-here s a l nowhere (read-line s a l e))
      (λ (l : length s ≤ a). let h = none-begins l in let z : ◌≡◌ {A = ℕ} 0 1 = cc in absurd (omega arith))
      (below a (length s))
    where
      nowhere : (sp : Span) → RowHere s a sp → ⊥
      nowhere sp h = let f = found h in let z : ◌≡◌ {A = ℕ} 0 1 = cc in omega arith

  -- a text breaks at one place at most
  pub one-break : {p q : ℕ} → Breaks s a p → Breaks s a q → p ≡ q
  one-break {p} {q} h k = ⊎_elim
      (λ (l : p < q). absurd (break-stops h l k))
      (λ (l : q ≤ p). ⊎_elim
      (λ (m : q < p). absurd (break-stops k m h))
      (λ (m : p ≤ q). omega arith)
      (below q p))
      (below p q)

  breaking : {p : ℕ} → Breaks s a p → line_at s a ≡ Broken p
  breaking {p} h = go (line_at s a) refl
    where
      go : (o : Line) → line_at s a ≡ o → line_at s a ≡ Broken p
      go (Whole sp) e = absurd (h.no_row sp (begun e))
      go End e = absurd (omega (arith, h.begins, ended e))
      go (Broken q) e = e ∙ ap Broken (one-break (broke e) h)

  -- the place that is found broken is the place where the text breaks
  pub line-broken : (p : ℕ) → (line_at s a ≡ Broken p → Breaks s a p) × (Breaks s a p → line_at s a ≡ Broken p)
  line-broken p = (broke, breaking)
