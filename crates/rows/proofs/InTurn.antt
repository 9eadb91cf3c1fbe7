-- Going from row to row of a text with next_row gives its rows in turn: `in-turn`, `turn-ends`, `turn-breaks`; and so
-- the header and a row can be cut out by it: `cut-by-next-row`.
use mathlib.Core.Path.{◌≡◌, ◌∙◌, refl, sym, ap}
use mathlib.Core.List.{List, [], ◌∷◌, ◌++◌}
use mathlib.Core.Logic.{⊎_elim}
use Prim.Native.Nat.{ℕ, zero, suc, ◌+◌, ◌-◌, ◌≤◌, ◌<◌}
use native.Mathlib.Omega.{arith}
use lib.ListN.{length, take, drop}
use Rattle.lists.specs.Lists.{nth}
use Rattle.lists.proofs.Tests.{below}
use Rattle.rfc4180.specs.Cells.{Row, row_of}
use Rattle.rfc4180.specs.Grammar.{CRLF}
use Rattle.rfc4180.specs.Csv.{rows_from, rows_of, prepend}
use Rattle.rfc4180.specs.Line.{line_at}
use Rattle.rfc4180.specs.declared.Span.{Span}
use Rattle.rfc4180.specs.declared.Line.{Line}
use Rattle.rfc4180.specs.declared.Line.TheVariants.{Whole, End, Broken}
use Rattle.rfc4180.proofs.Placed.{row-further, row_inside, row_first, break-none}
use Rattle.rfc4180.proofs.RowByRow.{line-whole, line-broken, line-end, none_left}
use Rattle.rows.proofs.Moved.{row_bytes, cut_out, Moved, moved}
use Rattle.std.specs.Prelude.{Option, Some, None}

-- where the next row is looked for after what was found: where it begins, or at the text's end
abbrev pub next_place : List ℕ → Line → ℕ
next_place s (Whole sp) = sp.next
next_place s End = length s
next_place s (Broken p) = length s

-- where row k of a text is looked for, going from row to row; the header is row 0 here
unfoldable pub place_at : List ℕ → ℕ → ℕ
place_at s zero = 0
place_at s (suc k) = next_place s (line_at s (place_at s k))

-- a row stands at a place, and next_row finds it there
pub record StandsAt (s : List ℕ) (at : ℕ) (r : Row) : Type 0 where
  pub span : Span
  pub line : line_at s at ≡ Whole span
  pub start : r.start ≡ at
  pub stop : r.stop ≡ span.stop
  pub cells : length r.cells ≡ span.cells

-- ---- what is left of the rows at row k's place
-- from a place on the text has the rows from row k on
record LeftAt (s : List ℕ) (rs : List Row) (k at : ℕ) : Type 0 where
  pub rest : List Row
  pub read : rows_from at (drop at s) ≡ Some rest
  pub same : (j : ℕ) → nth rs (k + j) ≡ nth rest j

rows_behind : {r : Row} (o : Option (List Row)) {qs : List Row} → prepend r o ≡ Some qs
    → (ps : List Row) × (o ≡ Some ps) × (qs ≡ r ∷ ps)
rows_behind None e = absurd (let z : ◌≡◌ {A = ℕ} 0 1 = cc in omega arith)
rows_behind (Some ps) e = (ps, refl, cc)

none-behind : (r : Row) (o : Option (List Row)) → prepend r o ≡ None → o ≡ None
none-behind r None e = refl
none-behind r (Some ps) e = absurd (let z : ◌≡◌ {A = ℕ} 0 1 = cc in omega arith)

module _ (s : List ℕ) (rs : List Row) (k at : ℕ) (h : LeftAt s rs k at) where
  here : {qs : List Row} → h.rest ≡ qs → nth rs k ≡ nth qs 0
  here e =
      let n : k + 0 ≡ k = omega arith in
      rw n at (h.same 0) ∙ ap (λ (q : List Row). nth q 0) e

  behind : {qs : List Row} → h.rest ≡ qs → (j : ℕ) → nth rs (suc k + j) ≡ nth qs (suc j)
  behind e j =
      let n : suc k + j ≡ k + suc j = omega arith in
      rw n (h.same (suc j) ∙ ap (λ (q : List Row). nth q (suc j)) e)

  rest-nil : line_at s at ≡ End → h.rest ≡ []
  rest-nil e = let a = h.read in let b = none_left s at ((line-end s at).0 e) in cc

  unbroken : {p : ℕ} {A : Type 0} → line_at s at ≡ Broken p → A
  unbroken {p} e =
      let a = h.read in
      let b = break-none ((line-broken s at p).0 e) in
      absurd (let z : ◌≡◌ {A = ℕ} 0 1 = cc in omega arith)

  row_here : {sp : Span} → line_at s at ≡ Whole sp
      → (r : Row) × StandsAt s at r × (ps : List Row) × (rows_from sp.next (drop sp.next s) ≡ Some ps)
      × (h.rest ≡ r ∷ ps)
  row_here {sp} e =
      let w = (line-whole s at sp).0 e in
      let b = rows_behind (rows_from sp.next (drop sp.next s)) (sym (row_first w) ∙ h.read) in (
        row_of at sp.stop w.fields,
        record { span = sp; line = e; start = refl; stop = refl; cells = w.count },
        b.0,
        b.1,
        b.2,
      )

  left-next : (l : Line) → line_at s at ≡ l → LeftAt s rs (suc k) (next_place s l)
  unfolding nth
  left-next (Whole sp) e =
      let f = row_here e in
      record { rest = f.2; read = f.3; same = behind f.4 }
  left-next End e = record {
    rest = [];
    read = none_left s (length s) (omega arith);
    same = behind (rest-nil e);
  }
  left-next (Broken p) e = unbroken e

  left-row : (l : Line) → line_at s at ≡ l → {r : Row} → nth rs k ≡ Some r → StandsAt s at r
  unfolding nth
  left-row (Whole sp) e {r} g =
      let f = row_here e in
      let i = here f.4 in
      let q : f.0 ≡ r = cc in
      rw q at f.1
  left-row End e g =
      let i = here (rest-nil e) in
      absurd (let z : ◌≡◌ {A = ℕ} 0 1 = cc in omega arith)
  left-row (Broken p) e g = unbroken e

  left-none : (l : Line) → line_at s at ≡ l → nth rs k ≡ None → l ≡ End
  unfolding nth
  left-none (Whole sp) e g =
      let i = here (row_here e).4 in
      absurd (let z : ◌≡◌ {A = ℕ} 0 1 = cc in omega arith)
  left-none End e g = refl
  left-none (Broken p) e g = unbroken e

module _ (s : List ℕ) (rs : List Row) (h : rows_of s ≡ Some rs) where
  left_at : (k : ℕ) → LeftAt s rs k (place_at s k)
  unfolding place_at
  left_at zero = record {
    rest = rs;
    read = h;
    same = λ j. let n : 0 + j ≡ j = omega arith in rw n;
  }
  left_at (suc k) = left-next s rs k (place_at s k) (left_at k) (line_at s (place_at s k)) refl

  -- Of a text that keeps to RFC 4180, next_row finds row k at row k's place
  pub in-turn : (k : ℕ) {r : Row} → nth rs k ≡ Some r → StandsAt s (place_at s k) r
  in-turn k f = left-row s rs k (place_at s k) (left_at k) (line_at s (place_at s k)) refl f

  -- and it finds the end where there is no row k
  pub turn-ends : (k : ℕ) → nth rs k ≡ None → line_at s (place_at s k) ≡ End
  turn-ends k f = left-none s rs k (place_at s k) (left_at k) (line_at s (place_at s k)) refl f

-- ---- a text that breaks RFC 4180
-- before row k next_row finds whole rows
abbrev pub WholeBefore : List ℕ → ℕ → Type 0
WholeBefore s k = (j : ℕ) → j < k → (sp : Span) × (line_at s (place_at s j) ≡ Whole sp)

-- it finds so many whole rows, and then a place where the text breaks the grammar
pub record BreaksIn (s : List ℕ) : Type 0 where
  pub count : ℕ
  pub place : ℕ
  pub before : WholeBefore s count
  pub breaks : line_at s (place_at s count) ≡ Broken place

module _ (s : List ℕ) (k : ℕ) (w : WholeBefore s k) (e : rows_from (place_at s k) (drop (place_at s k) s) ≡ None) where
  breaks-at : (l : Line) → line_at s (place_at s k) ≡ l → ((sp : Span) → line_at s (place_at s k) ≡ Whole sp → BreaksIn s)
      → BreaksIn s
  breaks-at (Whole sp) f next = next sp f
  breaks-at End f next =
      let g = none_left s (place_at s k) ((line-end s (place_at s k)).0 f) in
      absurd (let z : ◌≡◌ {A = ℕ} 0 1 = cc in omega arith)
  breaks-at (Broken p) f next = record { count = k; place = p; before = w; breaks = f }

  module _ (sp : Span) (f : line_at s (place_at s k) ≡ Whole sp) where
    place-next : place_at s (suc k) ≡ sp.next
    unfolding place_at
    place-next = rw f

    whole-next : WholeBefore s (suc k)
    whole-next j h = ⊎_elim
        (λ (l : j < k). w j l)
        (λ (l : k ≤ j). let i : j ≡ k = omega arith in (sp, rw i f))
        (below j k)

    none-next : rows_from (place_at s (suc k)) (drop (place_at s (suc k)) s) ≡ None
    none-next =
        let r = (line-whole s (place_at s k) sp).0 f in
        rw place-next (none-behind (row_of (place_at s k) sp.stop r.fields)
        (rows_from sp.next (drop sp.next s)) (sym (row_first r) ∙ e))

    less-next : length s - place_at s (suc k) < length s - place_at s k
    less-next =
        let r = (line-whole s (place_at s k) sp).0 f in
        omega (arith, place-next, row-further r, row_inside r)

breaks-from : (n : ℕ) (s : List ℕ) (k : ℕ) → length s - place_at s k ≤ n → WholeBefore s k
    → rows_from (place_at s k) (drop (place_at s k) s) ≡ None → BreaksIn s
breaks-from zero s k m w e =
    let f = none_left s (place_at s k) (omega arith) in
    absurd (let z : ◌≡◌ {A = ℕ} 0 1 = cc in omega arith)
breaks-from (suc n) s k m w e = breaks-at s k w e (line_at s (place_at s k)) refl (λ sp f.
    breaks-from n s (suc k) (omega (arith, less-next s k w e sp f)) (whole-next s k w e sp f) (none-next s k w e sp f))

-- Of a text that breaks RFC 4180, next_row finds whole rows, none or more, and then where it breaks
pub turn-breaks : (s : List ℕ) → rows_of s ≡ None → BreaksIn s
unfolding place_at
turn-breaks s e = breaks-from (length s) s 0 (omega arith) (λ j h. absurd (omega arith)) e

-- ---- header and row cut out by next_row
-- the bytes of a row that next_row found at a place, without its line end
abbrev pub line_bytes : List ℕ → ℕ → Span → List ℕ
line_bytes s at sp = take (sp.stop - at) (drop at s)

-- the header, which is found at 0, and row k behind it, each with a line end
abbrev pub cut_lines : List ℕ → ℕ → Span → Span → List ℕ
cut_lines s k first span = line_bytes s 0 first ++ CRLF ++ line_bytes s (place_at s (suc k)) span ++ CRLF

-- what next_row finds is the text's header and its row k behind it, and the two cut out are those of `moved`
pub record ByNextRow (text label : List ℕ) (k : ℕ) (out : List ℕ) (first span : Span) : Type 0 where
  pub header : Row
  pub rows : List Row
  pub row : Row
  pub read : rows_of text ≡ Some (header ∷ rows)
  pub at : nth rows k ≡ Some row
  pub same : cut_lines text k first span ≡ cut_out text header row
  pub as_moved : Moved text label k out header row

line-bytes : (s : List ℕ) {at : ℕ} {r : Row} {sp : Span} → StandsAt s at r → line_at s at ≡ Whole sp
    → line_bytes s at sp ≡ row_bytes s r
line-bytes s {sp = sp} w e =
    let f = w.line in
    let g : w.span ≡ sp = cc in
    rw (w.start, w.stop, g)

-- Of a text that keeps to RFC 4180, the header and row k as next_row finds them are those of `moved`
pub cut-by-next-row : (text label : List ℕ) (k : ℕ) (out : List ℕ) (rs : List Row) (first span : Span)
    → rows_of text ≡ Some rs → line_at text 0 ≡ Whole first → line_at text (place_at text (suc k)) ≡ Whole span
    → ByNextRow text label k out first span
unfolding nth place_at
cut-by-next-row text label k out [] first span e f g =
    absurd (let h = turn-ends text [] e 0 refl in let z : ◌≡◌ {A = ℕ} 0 1 = cc in omega arith)
cut-by-next-row text label k out (header ∷ rows) first span e f g = go (nth rows k) refl
  where
    go : (o : Option Row) → nth rows k ≡ o → ByNextRow text label k out first span
    go None i =
        absurd (let h = turn-ends text (header ∷ rows) e (suc k) i in let z : ◌≡◌ {A = ℕ} 0 1 = cc in omega arith)
    go (Some r) i = record {
      header = header;
      rows = rows;
      row = r;
      read = e;
      at = i;
      same = rw (
        line-bytes text (in-turn text (header ∷ rows) e 0 refl) f,
        line-bytes text (in-turn text (header ∷ rows) e (suc k) i) g,
      );
      as_moved = moved text label k out header rows r e i;
    }
