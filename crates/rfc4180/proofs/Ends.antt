-- Laws of the ends of contents in quotes, cells and rows: one for each way out of each part that finds them.
use mathlib.Core.Path.{◌≡◌, ◌∙◌, refl, sym, ap}
use mathlib.Core.List.{List, ◌∷◌}
use mathlib.Core.Bool.{Bool, true, false}
use mathlib.Core.Logic.{⊎_elim}
use Prim.Native.Nat.{ℕ, suc, ◌+◌, ◌-◌, ◌≤◌, ◌<◌}
use native.Mathlib.Omega.{arith}
use native.Mathlib.Numerals.{add-one}
use lib.ListN.{length, drop, get_or}
use borrow.Author.Tests.{lt-ltb, le-ltb}
use Rattle.lists.specs.Lists.{pick}
use Rattle.lists.proofs.Laws.{rest_more, rest-none}
use Rattle.lists.proofs.Tests.{below}
use Rattle.rfc4180.specs.Grammar.{COMMA, CR, DQUOTE, LF}
use Rattle.rfc4180.specs.Csv.{class_of, fresh, quotes, closing, return, turn_of}
use Rattle.rfc4180.specs.Line.{span_of, last_line, line_by, line_from, line_at}
use Rattle.rfc4180.specs.Scan.{starts, starts_text, TextTo, CellEnd, place_of, after_by, after_cell, after, closed_at, InnerAt, CellTo}
use Rattle.std.specs.Prelude.{Ok, Err}
use Rattle.rfc4180.specs.declared.Line.{Line}
use Rattle.rfc4180.specs.declared.Line.TheVariants.{Whole, End, Broken}
use Rattle.rfc4180.proofs.Bytes.{seen}
use Rattle.rfc4180.proofs.Scans.{starts-below, starts-rest, starts_other, plain-on, quotes-on, quotes-by, return-by, after-by, fresh-plain, plain-after, closing_after}

-- ---- in quotes
module _ (s : List ℕ) (p n : ℕ) (k : starts DQUOTE (drop p s) ≡ true) where
  -- a quote opens a content, ends it, and, doubled, goes on with it
  opens : line_from (drop p s) fresh n p ≡ line_from (drop (p + 1) s) quotes n (p + 1)
  unfolding line_from line_by turn_of class_of
  opens = rw (starts-rest s p DQUOTE k, add-one p)

  closes : line_from (drop p s) quotes n p ≡ line_from (drop (p + 1) s) closing n (p + 1)
  unfolding line_from line_by turn_of class_of
  closes = rw (starts-rest s p DQUOTE k, add-one p)

  doubles : line_from (drop p s) closing n p ≡ line_from (drop (p + 1) s) quotes n (p + 1)
  unfolding line_from line_by turn_of class_of
  doubles = rw (starts-rest s p DQUOTE k, add-one p)

module _ (s : List ℕ) (p : ℕ) where
  inner-one : (b : ℕ) {r : Bool} → ((n q : ℕ) (l : List ℕ) → line_from (b ∷ l) quotes n q ≡ line_from l quotes n (suc q))
      → r ≡ starts b (drop p s) → r ≡ true → InnerAt s p 1
  inner-one b {r} on e t =
      let k : starts b (drop p s) ≡ true = sym e ∙ t in
      let l : p < length s = starts-below s p b k in
      let f : p + 1 ≡ suc p = add-one p in
      record {
        inside = omega arith;
        on = λ n. rw (starts-rest s p b k, on n p (drop (p + 1) s), f);
        stops = λ z. absurd (omega arith);
      }

  pub inner-comma : {r : Bool} → r ≡ starts COMMA (drop p s) → r ≡ true → InnerAt s p 1
  unfolding line_from line_by turn_of class_of
  inner-comma e t = inner-one COMMA (λ n q l. refl) e t

  pub inner-cr : {r : Bool} → r ≡ starts CR (drop p s) → r ≡ true → InnerAt s p 1
  unfolding line_from line_by turn_of class_of
  inner-cr e t = inner-one CR (λ n q l. refl) e t

  pub inner-lf : {r : Bool} → r ≡ starts LF (drop p s) → r ≡ true → InnerAt s p 1
  unfolding line_from line_by turn_of class_of
  inner-lf e t = inner-one LF (λ n q l. refl) e t

  pub inner-two : {r : Bool} → starts DQUOTE (drop p s) ≡ true → r ≡ starts DQUOTE (drop (p + 1) s) → r ≡ true
      → InnerAt s p 2
  inner-two k e t =
      let j : starts DQUOTE (drop (p + 1) s) ≡ true = sym e ∙ t in
      let l : p + 1 < length s = starts-below s (p + 1) DQUOTE j in
      let f : (p + 1) + 1 ≡ p + 2 = omega arith in
      record {
        inside = omega arith;
        on = λ n. closes s p n k ∙ (rw f at (doubles s (p + 1) n j));
        stops = λ z. absurd (omega arith);
      }

  no_more : (n : ℕ) → line_from (drop p s) quotes n p ≡ line_from (drop (p + 0) s) quotes n (p + 0)
  no_more n =
      let f : p + 0 ≡ p = omega arith in
      rw f

  pub inner-closes : {r : Bool} → starts DQUOTE (drop p s) ≡ true → r ≡ starts DQUOTE (drop (p + 1) s) → r ≡ false
      → InnerAt s p 0
  unfolding after closed_at
  inner-closes k e t =
      let l : p < length s = starts-below s p DQUOTE k in
      record {
        inside = omega arith;
        on = no_more;
        stops = λ z h n. rw k (closes s p n k ∙ closing_after n (p + 1) (drop (p + 1) s) (sym e ∙ t));
      }

  open-ended : starts DQUOTE (drop p s) ≡ false → starts COMMA (drop p s) ≡ false → starts CR (drop p s) ≡ false
      → starts LF (drop p s) ≡ false
      → starts_text (drop p s) ≡ false → (n : ℕ) → line_from (drop p s) quotes n p ≡ Broken p
  unfolding line_from last_line starts_text
  open-ended q c r f t n = ⊎_elim
      (λ l. let u : starts_text (get_or s p 0 ∷ drop (p + 1) s) ≡ false = rw (rest_more s p l) at t in
      rw (rest_more s p l) (quotes-by n p (drop (p + 1) s) (seen (get_or s p 0)) (starts_other s p DQUOTE l q)
      (starts_other s p COMMA l c) (starts_other s p CR l r) (starts_other s p LF l f) u))
      (λ l. rw (rest-none s p l))
      (below p (length s))

  pub inner-none : p ≤ length s → starts DQUOTE (drop p s) ≡ false → starts COMMA (drop p s) ≡ false
      → starts CR (drop p s) ≡ false → starts LF (drop p s) ≡ false
      → InnerAt s p 0
  unfolding after closed_at
  inner-none l q c r f = record {
    inside = omega arith;
    on = no_more;
    stops = λ z h n. rw q (open-ended q c r f h n);
  }

  pub closed-whole : {r : Bool} → r ≡ starts DQUOTE (drop p s) → r ≡ true → Ok (p + 1) ≡ closed_at s p
  unfolding closed_at
  closed-whole e t = rw (← e, t)

  pub closed-broken : {r : Bool} → r ≡ starts DQUOTE (drop p s) → r ≡ false → Err p ≡ closed_at s p
  unfolding closed_at
  closed-broken e t = rw (← e, t)

  closed-ahead : (a : ℕ) → a ≤ p → p ≤ length s → (a ≤ place_of (closed_at s p)) × (place_of (closed_at s p) ≤ length s)
  unfolding closed_at
  closed-ahead a l m = go (starts DQUOTE (drop p s)) refl
    where
      go : (t : Bool) → starts DQUOTE (drop p s) ≡ t
          → (a ≤ place_of (pick t (Ok (p + 1)) (Err p))) × (place_of (pick t (Ok (p + 1)) (Err p)) ≤ length s)
      go true e = (omega arith, omega (arith, starts-below s p DQUOTE e))
      go false e = (l, m)

-- the content in quotes that begins at a goes on at p, with k more bytes
pub record Quoted (s : List ℕ) (a p k : ℕ) : Type 0 where
  pub onward : a ≤ p
  pub here : InnerAt s p k
  pub stops : starts_text (drop p s) ≡ false
  pub on : (n : ℕ) → line_from (drop a s) quotes n a ≡ line_from (drop p s) quotes n p

module _ (s : List ℕ) (a p k : ℕ) where
  pub quoted-first : TextTo s a p → InnerAt s p k → Quoted s a p k
  quoted-first h i = record { onward = h.run.onward; here = i; stops = h.stops; on = λ n. quotes-on h.run n }

  pub quoted-more : (q j : ℕ) → Quoted s a p k → TextTo s (p + k) q → InnerAt s q j → Quoted s a q j
  quoted-more q j h t i = record {
    onward = omega (arith, h.onward, t.run.onward);
    here = i;
    stops = t.stops;
    on = λ n. h.on n ∙ h.here.on n ∙ quotes-on t.run n;
  }

  pub quoted-done : {c : CellEnd} → Quoted s a p k → k ≡ 0 → c ≡ closed_at s p → CellTo s quotes a c
  quoted-done {c} h z e = record {
    onward = rw e (closed-ahead s p a h.onward (omega (arith, h.here.inside))).0;
    inside = rw e (closed-ahead s p a h.onward (omega (arith, h.here.inside))).1;
    goes = λ n. rw e (h.on n ∙ h.here.stops z h.stops n);
  }

-- ---- cells
module _ (s : List ℕ) (p : ℕ) where
  pub cell-quoted : {r : Bool} {c : CellEnd} → r ≡ starts DQUOTE (drop p s) → r ≡ true → CellTo s quotes (p + 1) c
      → CellTo s fresh p c
  cell-quoted e t h = record {
    onward = omega (arith, h.onward);
    inside = h.inside;
    goes = λ n. opens s p n (sym e ∙ t) ∙ h.goes n;
  }

  pub cell-plain : {r : Bool} (q : ℕ) → r ≡ starts DQUOTE (drop p s) → r ≡ false → TextTo s p q
      → CellTo s fresh p (Ok q)
  unfolding after
  cell-plain q e t h = record {
    onward = h.run.onward;
    inside = h.run.inside;
    goes = λ n. fresh-plain n p (drop p s) (sym e ∙ t) ∙ plain-on h.run n ∙ plain-after n q (drop q s) h.stops;
  }

-- ---- rows
module _ (s : List ℕ) (p n : ℕ) where
  pub cr-lf : {r : Bool} → r ≡ starts LF (drop p s) → r ≡ true
      → Whole (span_of (p - 1) (p + 1) n) ≡ line_from (drop p s) return n p
  unfolding line_from line_by turn_of class_of
  cr-lf e t = rw (starts-rest s p LF (sym e ∙ t), add-one p)

  pub cr-alone : {r : Bool} → r ≡ starts LF (drop p s) → r ≡ false → Broken p ≡ line_from (drop p s) return n p
  unfolding line_from last_line
  cr-alone e t = sym (⊎_elim
      (λ l. rw (rest_more s p l)
      (return-by n p (drop (p + 1) s) (seen (get_or s p 0)) (starts_other s p LF l (sym e ∙ t))))
      (λ l. rw (rest-none s p l))
      (below p (length s)))

  pub cell-cr : {r : Bool} {o : Line} → r ≡ starts CR (drop p s) → r ≡ true
      → o ≡ line_from (drop (p + 1) s) return n (p + 1) → o ≡ after_cell (drop p s) n p
  unfolding after_cell after_by class_of
  cell-cr e t h = h ∙ rw (starts-rest s p CR (sym e ∙ t), add-one p)

  pub cell-breaks : {r : Bool} → starts COMMA (drop p s) ≡ false → r ≡ starts CR (drop p s) → r ≡ false → p < length s
      → Broken p ≡ after_cell (drop p s) n p
  unfolding after_cell
  cell-breaks c e t l = rw (rest_more s p l)
      (sym (after-by n p (drop (p + 1) s) (seen (get_or s p 0)) (starts_other s p COMMA l c)
      (starts_other s p CR l (sym e ∙ t))))

  pub cell-last : length s ≤ p → Whole (span_of p p n) ≡ after_cell (drop p s) n p
  unfolding after_cell
  cell-last l = rw (rest-none s p l)

-- a comma follows the cell that ends at p: the row goes on after it
pub comma-on : (s : List ℕ) (p n : ℕ) → starts COMMA (drop p s) ≡ true
    → after_cell (drop p s) n p ≡ line_from (drop (p + 1) s) fresh n (p + 1)
unfolding after_cell after_by class_of
comma-on s p n e = rw (starts-rest s p COMMA e, add-one p)

-- the row that begins at a goes on at p, where its cell n begins
pub record Rowing (s : List ℕ) (a p n : ℕ) : Type 0 where
  pub inside : p ≤ length s
  pub few : n ≤ p + 1
  pub on : (k : ℕ) → n ≡ suc k → line_at s a ≡ line_from (drop p s) fresh k p

module _ (s : List ℕ) (a : ℕ) where
  pub row-none : length s ≤ a → End ≡ line_at s a
  unfolding line_at
  row-none l = rw (le-ltb a (length s) l)

  pub row_first : a < length s → Rowing s a a 1
  unfolding line_at
  row_first l = record {
    inside = omega arith;
    few = omega arith;
    on = λ k e. let z : k ≡ 0 = omega arith in rw (lt-ltb a (length s) l, z);
  }

  -- cell n, which begins at p, ends at q
  module _ (p n q : ℕ) (h : Rowing s a p n) (k : CellTo s fresh p (Ok q)) where
    cell_over : 1 ≤ n → line_at s a ≡ after_cell (drop q s) n q
    unfolding after
    cell_over l =
        let e : n ≡ suc (n - 1) = omega arith in
        h.on (n - 1) e ∙ k.goes (n - 1) ∙ ap (λ (m : ℕ). after_cell (drop q s) m q) (sym e)

    pub row_more : starts COMMA (drop q s) ≡ true → 1 ≤ n → Rowing s a (q + 1) (n + 1)
    row_more t l = record {
      inside = omega (arith, starts-below s q COMMA t);
      few = omega (arith, h.few, k.onward);
      on = λ m e. let f : n ≡ m = omega arith in cell_over l ∙ comma-on s q n t ∙ rw f;
    }

    pub row_last : {o : Line} → 1 ≤ n → o ≡ after_cell (drop q s) n q → o ≡ line_at s a
    row_last l e = e ∙ sym (cell_over l)

  -- it breaks the grammar
  pub row-broken : (p n q : ℕ) → Rowing s a p n → 1 ≤ n → CellTo s fresh p (Err q) → Broken q ≡ line_at s a
  unfolding after
  row-broken p n q h l k =
      let e : n ≡ suc (n - 1) = omega arith in
      sym (h.on (n - 1) e ∙ k.goes (n - 1))
