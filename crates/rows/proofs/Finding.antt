-- Going from row to row of a text, and the row that is looked for.
use mathlib.Core.Path.{◌≡◌, ◌∙◌, refl, sym, ap}
use mathlib.Core.List.{List, [], ◌∷◌}
use mathlib.Core.Bool.{true, false}
use mathlib.Core.Logic.{inl, inr}
use Prim.Native.Nat.{ℕ, suc, ◌+◌, ◌-◌, ◌≤◌, ◌<◌}
use native.Mathlib.Omega.{arith}
use lib.ListN.{length, drop}
use denote.Enum.Declared.{tag_of}
use types.Run.{OneOf, miss}
use Rattle.lists.specs.Lists.{nth}
use Rattle.lists.proofs.Tests.{never}
use Rattle.rfc4180.specs.Cells.{Row, row_of}
use Rattle.rfc4180.specs.Csv.{rows_from, rows_of, prepend}
use Rattle.rfc4180.specs.Line.{line_at}
use Rattle.rfc4180.specs.declared.Span.{Span}
use Rattle.rfc4180.specs.declared.Line.{Line}
use Rattle.rfc4180.specs.declared.Line.TheVariants.{Whole, End, Broken}
use Rattle.rfc4180.specs.contracts.Line.{the_type}
use Rattle.rfc4180.proofs.Placed.{row-further, row_inside, row_first, break-none}
use Rattle.rfc4180.proofs.RowByRow.{line-whole, line-broken, line-end, none_left}
use Rattle.rows.specs.Inner.{is_there, searched, found_in, searched_at}
use Rattle.std.specs.Prelude.{Some, None}
use Rattle.std.specs.Prelude.{Option}

-- ---- one row and those after it
there-after : (r : Row) (o : Option (List Row)) → is_there (prepend r o) ≡ is_there o
there-after r None = refl
there-after r (Some rs) = refl

found_first : (r : Row) (o : Option (List Row)) → is_there o ≡ true → found_in (prepend r o) 0 ≡ searched (Some r)
unfolding found_in nth
found_first r None h = never h
found_first r (Some rs) h = refl

found_after : (r : Row) (o : Option (List Row)) (k : ℕ) → found_in (prepend r o) (suc k) ≡ found_in o k
unfolding found_in nth
found_after r None k = refl
found_after r (Some rs) k = refl

found-no-row : (k : ℕ) → found_in (Some []) k ≡ None
unfolding found_in nth
found-no-row k = refl

-- the numbers of the variants that are no whole row
abbrev not_whole : List ℕ
not_whole = 1 ∷ 2 ∷ []

-- what is no whole row is one of those
pub among_others : (l : Line) → ((sp : Span) → l ≡ Whole sp → ⊥) → OneOf not_whole (tag_of the_type l)
among_others (Whole sp) h = absurd (h sp refl)
among_others End h = inl refl
among_others (Broken p) h = inr refl

-- the rows of a text from a place on
abbrev rows_left : List ℕ → ℕ → Option (List Row)
rows_left s at = rows_from at (drop at s)

module _ (s : List ℕ) (at : ℕ) where
  left_end : line_at s at ≡ End → rows_left s at ≡ Some []
  left_end e = none_left s at ((line-end s at).0 e)

  left-broken : {p : ℕ} → line_at s at ≡ Broken p → is_there (rows_left s at) ≡ false
  left-broken {p} e = ap is_there (break-none ((line-broken s at p).0 e))

  left-whole : {sp : Span} → line_at s at ≡ Whole sp → is_there (rows_left s at) ≡ is_there (rows_left s sp.next)
  left-whole {sp} e =
      let h = (line-whole s at sp).0 e in
      ap is_there (row_first h) ∙ there-after (row_of at sp.stop h.fields) (rows_left s sp.next)

-- ---- does a text keep to RFC 4180
-- read up to a place, it does where it does from there on
pub record Reading (s : List ℕ) (at : ℕ) : Type 0 where
  pub same : is_there (rows_of s) ≡ is_there (rows_left s at)

pub read_first : (s : List ℕ) → Reading s 0
read_first s = record { same = refl }

module _ (s : List ℕ) (at : ℕ) (h : Reading s at) where
  pub read-last : length s ≤ at → true ≡ is_there (rows_of s)
  read-last g = sym (h.same ∙ ap is_there (left_end s at ((line-end s at).1 g)))

  module _ (l : Line) (e : l ≡ line_at s at) where
    pub read_more : (sp : Span) → l ≡ Whole sp → Reading s sp.next
    read_more sp f = record { same = h.same ∙ left-whole s at (sym e ∙ f) }

    pub read-broken : OneOf not_whole (tag_of the_type l) → at < length s → false ≡ is_there (rows_of s)
    read-broken t b = go l e t
      where
        go : (l : Line) → l ≡ line_at s at → OneOf not_whole (tag_of the_type l) → false ≡ is_there (rows_of s)
        go (Whole sp) e t = absurd (miss not_whole 0 tt t)
        go End e t = absurd (omega (arith, (line-end s at).0 (sym e)))
        go (Broken p) e t = sym (h.same ∙ left-broken s at (sym e))

-- the next row begins further on, and not behind the text
pub read-less : (s : List ℕ) (at : ℕ) (l : Line) (sp : Span) → l ≡ line_at s at → l ≡ Whole sp
    → length s - sp.next < length s - at
read-less s at l sp e f = let w = (line-whole s at sp).0 (sym e ∙ f) in omega (arith, row-further w, row_inside w)

-- ---- row k
-- j rows are passed up to a place: the row is row k - j from there on
pub record Passed (s : List ℕ) (k at j : ℕ) : Type 0 where
  pub few : j ≤ k
  pub there : is_there (rows_left s at) ≡ true
  pub same : found_in (rows_of s) k ≡ found_in (rows_left s at) (k - j)

pub none_passed : (s : List ℕ) (k : ℕ) → is_there (rows_of s) ≡ true → Passed s k 0 0
none_passed s k h =
    let e : k ≡ k - 0 = omega arith in
    record { few = omega arith; there = h; same = ap (found_in (rows_of s)) e }

found-line : (s : List ℕ) (at : ℕ) (l : Line) → line_at s at ≡ l → is_there (rows_left s at) ≡ true
    → searched_at l at ≡ found_in (rows_left s at) 0
found-line s at (Whole sp) e h =
    let w = (line-whole s at sp).0 e in
    let g : is_there (rows_left s sp.next) ≡ true = sym (left-whole s at e) ∙ h in
    rw (row_first w, found_first (row_of at sp.stop w.fields) (rows_left s sp.next) g, w.count)
found-line s at End e h = rw (left_end s at e, found-no-row 0)
found-line s at (Broken p) e h = never (sym (left-broken s at e) ∙ h)

module _ (s : List ℕ) (k at j : ℕ) (h : Passed s k at j) where
  pub passed_to : k ≤ j → searched_at (line_at s at) at ≡ found_in (rows_of s) k
  passed_to l =
      let d : k - j ≡ 0 = omega arith in
      sym (h.same ∙ rw d (sym (found-line s at (line_at s at) refl h.there)))

  module _ (l : Line) (e : l ≡ line_at s at) where
    pub one-passed : (sp : Span) → l ≡ Whole sp → j < k → Passed s k sp.next (j + 1)
    one-passed sp f b =
        let w = (line-whole s at sp).0 (sym e ∙ f) in
        let d : k - j ≡ suc (k - (j + 1)) = omega arith in
        record {
          few = omega arith;
          there = sym (left-whole s at (sym e ∙ f)) ∙ h.there;
          same = h.same ∙ rw (row_first w, d)
              (found_after (row_of at sp.stop w.fields) (rows_left s sp.next) (k - (j + 1)));
        }

    pub passed-all : OneOf not_whole (tag_of the_type l) → None ≡ found_in (rows_of s) k
    passed-all t = go l e t
      where
        go : (l : Line) → l ≡ line_at s at → OneOf not_whole (tag_of the_type l) → None ≡ found_in (rows_of s) k
        go (Whole sp) e t = absurd (miss not_whole 0 tt t)
        go End e t = sym (h.same ∙ rw (left_end s at (sym e)) (found-no-row (k - j)))
        go (Broken p) e t = never (sym (left-broken s at (sym e)) ∙ h.there)

-- ---- the row that begins at a place
module _ (s : List ℕ) (at : ℕ) (l : Line) (e : l ≡ line_at s at) where
  pub row-there : (sp : Span) → l ≡ Whole sp
      → Some (record { start = at; stop = sp.stop; cells = sp.cells }) ≡ searched_at (line_at s at) at
  row-there sp f = rw (sym e ∙ f)

  pub row-absent : OneOf not_whole (tag_of the_type l) → None ≡ searched_at (line_at s at) at
  row-absent t = rw (← e) (go l t)
    where
      go : (l : Line) → OneOf not_whole (tag_of the_type l) → None ≡ searched_at l at
      go (Whole sp) t = absurd (miss not_whole 0 tt t)
      go End t = refl
      go (Broken p) t = refl
