-- Tokens that stand elsewhere in another document, with names of the same texts: what the grammar reads of them, it
-- reads there, and their trees are the same.
use mathlib.Core.Bool.{Bool, true, false}
use mathlib.Core.Logic.{⊎_elim, ◌⊎◌, inl, inr}
use mathlib.Core.Path.{◌≡◌, refl, sym, ap, ◌∙◌, subst}
use mathlib.Core.List.{List, [], ◌∷◌, map}
use Prim.Native.Nat.{ℕ, zero, suc, ◌+◌, ◌-◌, ◌*◌, ◌/◌, ◌%◌, ◌≤◌, ◌<◌}
use native.Mathlib.Omega.{arith}
use borrow.Author.Tests.{eqb-true, eqb-false, ltb-true, lt-ltb, le-leb}
use lib.ListN.{length}
use lib.Dec.{eqb, leb}
use Rattle.lists.specs.Lists.{pick, table, first, any_of, is_one}
use Rattle.lists.proofs.Tests.{never, below, both_true, true-both, true-or-false}
use Rattle.frame.specs.Limits.{max_depth}
use Rattle.frame.specs.Doc.{Doc, kind_of, value_of, name_of}
use Rattle.rules.specs.declared.Place.{Place}
use Rattle.rules.specs.declared.Place.TheVariants.{WholeStatement, Clause, SetItem, RemoveItem, Pattern, Part, Element, Expr, MapItem, Name, SpanStart, SpanEnd, WholeSchema, Declaration, LabelItem, RelTypeItem, PropertyType}
use Rattle.rules.specs.Rules.{takes, many, pairs, any, Rule, rules, opens_by, most_of, valued, opens, arity}
use Rattle.rules.proofs.Children.{name-kind, start-kind, end-kind}
use Rattle.grammar.specs.Machine.{Want, opened, bounded, allowed, judged, run}
use Rattle.grammar.specs.Inner.{from}
use Rattle.grammar.specs.Tree.{tree_of}
use Rattle.grammar.proofs.Laws.{passed-7, run_inside, inside-next}
use Rattle.grammar.proofs.Formed.{opened-length, went_on, arity-at}
use Rattle.grammar.proofs.Below.{leaf-span-start}
use Rattle.grammar.proofs.Flat.{allowed-taken, name_below}
use Rattle.moving.proofs.Trees.{Ends, none, more, Same}
use Rattle.std.specs.Prelude.{Some, None, Result, Ok}
use Rattle.frame.specs.declared.Fault.{Fault}

-- ---- a token that is read
module _ (d : Doc) (w : Want) (i : ℕ) where
  -- a token without fault is allowed, and not too deep
  pub judged-passed : judged d w i ≡ None → (allowed d w.place i ≡ true) × (leb w.depth max_depth ≡ true)
  unfolding judged
  judged-passed h = passed-7 (allowed d w.place i) (leb w.depth max_depth) i h

  -- a token that is allowed and not too deep is without fault
  pub passed-judged : allowed d w.place i ≡ true → leb w.depth max_depth ≡ true → judged d w i ≡ None
  unfolding judged
  passed-judged a b = rw (a, b)

-- a read that ended, ended there
pub next-same : (i k : ℕ) → ◌≡◌ {A = Result ℕ Fault} (Ok i) (Ok k) → i ≡ k
next-same i k h = cc

module _ (d : Doc) where
  -- As many whole trees are read as places waited
  pub run_ends : (left : ℕ) (ws : List Want) (i k : ℕ) → i + left ≡ length d.tokens → run d left ws i ≡ Ok k
      → Ends (tree_of d) (length ws) i k
  unfolding run tree_of
  run_ends zero [] i k e h = let z : i ≡ k = cc in subst (λ (j : ℕ). Ends (tree_of d) 0 i j) z none
  run_ends zero (w ∷ ws) i k e h = absurd (let z : ◌≡◌ {A = ℕ} 0 1 = cc in omega arith)
  run_ends (suc left) [] i k e h = let z : i ≡ k = cc in subst (λ (j : ℕ). Ends (tree_of d) 0 i j) z none
  run_ends (suc left) (w ∷ ws) i k e h =
      let r = went_on (judged d w i) _ k h in
      let os = opens (kind_of d i) (value_of d i) in
      let g = run_ends left (opened (w.depth + 1) os ws) (suc i) k (omega arith) r.1 in
      let n : length (opened (w.depth + 1) os ws) ≡ length ws + arity ((tree_of d).kind i) ((tree_of d).value i) =
      omega (arith, opened-length (w.depth + 1) os ws, arity-at d i) in
      let b : i < length d.tokens = omega arith in
      let v : Ends (tree_of d) (length ws + arity ((tree_of d).kind i) ((tree_of d).value i)) (suc i) k =
      subst (λ (z : ℕ). Ends (tree_of d) z (suc i) k) n g in
      more b v

  -- Each token that was read fills a place
  pub run-allowed : (left : ℕ) (ws : List Want) (i k j : ℕ) → run d left ws i ≡ Ok k → i ≤ j → j < k
      → (o : Place) × (allowed d o j ≡ true)
  unfolding run
  run-allowed zero [] i k j h p q = absurd (let z : i ≡ k = cc in omega arith)
  run-allowed zero (w ∷ ws) i k j h p q = absurd (let z : ◌≡◌ {A = ℕ} 0 1 = cc in omega arith)
  run-allowed (suc left) [] i k j h p q = absurd (let z : i ≡ k = cc in omega arith)
  run-allowed (suc left) (w ∷ ws) i k j h p q =
      let r = went_on (judged d w i) _ k h in
      ⊎_elim
      (λ b. run-allowed left (opened (w.depth + 1) (opens (kind_of d i) (value_of d i)) ws) (suc i) k j r.1 b q)
      (λ b. let z : i ≡ j = omega arith in
      (w.place, subst (λ (x : ℕ). allowed d w.place x ≡ true) z (judged-passed d w i r.0).0))
      (below i j)

-- ---- a Name
-- a Name may have any value
name-most : (k : ℕ) → k ≡ 50 → most_of k ≡ any
unfolding most_of rules first any_of table
name-most k e = rw e

-- what a Name opens does not hang on its value
name-opens : (k v w : ℕ) → k ≡ 50 → opens k v ≡ opens k w
unfolding opens rules first any_of table
name-opens k v w e = rw e

-- two numbers are equal or not
is-or-not : (a b : ℕ) → (a ≡ b) ⊎ (a ≡ b → ⊥)
is-or-not a b = ⊎_elim (λ h. inl (eqb-true a b h)) (λ h. inr (eqb-false a b h)) (true-or-false (eqb a b))

-- ---- spans: the end of each stands behind its start
-- each SpanEnd stands directly behind a SpanStart, or is the first, where B holds
abbrev pub Paired : Type 0 → List Place → Type 0
Paired B [] = Unit {0}
Paired B (p ∷ ps) = (p ≡ SpanEnd → B) × Paired (p ≡ SpanStart) ps

-- the same of the places that wait
abbrev pub Awaits : Type 0 → List Want → Type 0
Awaits B [] = Unit {0}
Awaits B (w ∷ ws) = (w.place ≡ SpanEnd → B) × Awaits (w.place ≡ SpanStart) ws

-- B alone may be another
paired-any : {B C : Type 0} (ps : List Place) → (B → C) → Paired B ps → Paired C ps
paired-any [] f h = tt
paired-any (p ∷ ps) f h = ((λ e. f (h.0 e)), h.1)

-- and so for the places that wait
awaits-any : {B C : Type 0} (ws : List Want) → (B → C) → Awaits B ws → Awaits C ws
awaits-any [] f h = tt
awaits-any (w ∷ ws) f h = ((λ e. f (h.0 e)), h.1)

-- places opened in front of those that wait
pub opened-awaits : (B : Type 0) (d : ℕ) (ps : List Place) (ws : List Want) → Paired B ps → Awaits ⊥ ws
    → Awaits B (opened d ps ws)
unfolding opened
opened-awaits B d [] ws h g = awaits-any ws (λ e. absurd e) g
opened-awaits B d (p ∷ ps) ws h g = (h.0, opened-awaits (p ≡ SpanStart) d ps ws h.1 g)

-- behind a place that a token filled: it opened places, or is a start, which opens none
filled-awaits : (B : Type 0) (d : ℕ) (p : Place) (ps : List Place) (ws : List Want) → Paired ⊥ ps
    → (p ≡ SpanStart → ps ≡ []) → (p ≡ SpanStart → B) → Awaits (p ≡ SpanStart) ws → Awaits B (opened d ps ws)
unfolding opened
filled-awaits B d p [] ws h o b g = awaits-any ws b g
filled-awaits B d p (q ∷ qs) ws h o b g =
    let no : p ≡ SpanStart → ⊥ = λ e. (let y = o e in let z : ◌≡◌ {A = ℕ} 0 1 = cc in omega arith) in
    opened-awaits B d (q ∷ qs) ws (paired-any (q ∷ qs) (λ e. absurd e) h) (awaits-any ws no g)

-- ---- every row of the table keeps to it
abbrev pub is_end : Place → Bool
is_end WholeStatement = false
is_end Clause = false
is_end SetItem = false
is_end RemoveItem = false
is_end Pattern = false
is_end Part = false
is_end Element = false
is_end Expr = false
is_end MapItem = false
is_end Name = false
is_end SpanStart = false
is_end SpanEnd = true
is_end WholeSchema = false
is_end Declaration = false
is_end LabelItem = false
is_end RelTypeItem = false
is_end PropertyType = false

-- any other place is not the end of a span
pub no_end : {B : Type 0} (p : Place) → is_end p ≡ false → p ≡ SpanEnd → B
no_end p h e = never (sym h ∙ ap is_end e)

-- a place in front
one-paired : (p : Place) (ps : List Place) → is_end p ≡ false → Paired ⊥ ps → Paired ⊥ (p ∷ ps)
one-paired p ps h g = (no_end p h, paired-any ps (λ e. absurd e) g)

-- so many of a place in front
pub many-paired : (n : ℕ) (p : Place) (ps : List Place) → (p ≡ SpanEnd → ⊥) → Paired ⊥ ps → Paired ⊥ (many n p ps)
unfolding many
many-paired zero p ps h g = g
many-paired (suc n) p ps h g = (h, paired-any (many n p ps) (λ e. absurd e) (many-paired n p ps h g))

-- a span in front
span-paired : (ps : List Place) → Paired ⊥ ps → Paired ⊥ (SpanStart ∷ SpanEnd ∷ ps)
span-paired ps h = (no_end SpanStart refl, ((λ e. refl), paired-any ps (λ e. absurd e) h))

-- so many pairs
pairs-paired : (n : ℕ) → Paired ⊥ (pairs n [])
unfolding pairs
pairs-paired zero = tt
pairs-paired (suc n) = one-paired Name (Expr ∷ pairs n []) refl (one-paired Expr (pairs n []) refl (pairs-paired n))

-- So many of a place that is not the end of a span, with none behind
pub many-awaits : (B : Type 0) (d n : ℕ) (p : Place) → is_end p ≡ false → Awaits B (opened d (many n p []) [])
many-awaits B d n p h =
    opened-awaits B d (many n p []) []
    (paired-any (many n p []) (λ e. absurd e) (many-paired n p [] (no_end p h) tt)) tt

-- a row that keeps to it
record PairedRow : Type 0 where
  pub places : ℕ → List Place
  pub paired : (v : ℕ) → Paired ⊥ (places v)

-- no place
abbrev empty : PairedRow
empty = record { places = λ v. []; paired = λ v. tt }

-- a place in front of a row
abbrev in-front : (p : Place) → is_end p ≡ false → PairedRow → PairedRow
in-front p h r = record { places = λ v. p ∷ r.places v; paired = λ v. one-paired p (r.places v) h (r.paired v) }

-- so many of a place, by the value, in front of a row
abbrev so-many : (ℕ → ℕ) → (p : Place) → is_end p ≡ false → PairedRow → PairedRow
so-many n p h r = record {
  places = λ v. many (n v) p (r.places v);
  paired = λ v. many-paired (n v) p (r.places v) (no_end p h) (r.paired v);
}

-- a span in front of a row
abbrev a-span : PairedRow → PairedRow
a-span r = record {
  places = λ v. SpanStart ∷ SpanEnd ∷ r.places v;
  paired = λ v. span-paired (r.places v) (r.paired v);
}

-- as many pairs as the value says
abbrev some_pairs : PairedRow
some_pairs = record { places = λ v. pairs v []; paired = pairs-paired }

-- one place
abbrev one : (p : Place) → is_end p ≡ false → PairedRow
one p h = in-front p h empty

-- two places
abbrev two : (p q : Place) → is_end p ≡ false → is_end q ≡ false → PairedRow
two p q h g = in-front p h (one q g)

-- as many of a place as the value says
abbrev all : (p : Place) → is_end p ≡ false → PairedRow
all p h = so-many (λ v. v) p h empty

-- a place, and as many of another as the value says
abbrev lead : (p q : Place) → is_end p ≡ false → is_end q ≡ false → PairedRow
lead p q h g = in-front p h (all q g)

-- a place, as many expressions as the value says, and one more
abbrev lead-one : (p : Place) → is_end p ≡ false → PairedRow
lead-one p h = in-front p h (so-many (λ v. v) Expr refl (one Expr refl))

-- the table's rows
paired-rows : List PairedRow
paired-rows =
    all Clause refl
    ∷ one Pattern refl
    ∷ one Expr refl
    ∷ so-many (λ v. v / 2) Expr refl (so-many (λ v. v % 2) Expr refl empty)
    ∷ all Expr refl
    ∷ all SetItem refl
    ∷ all RemoveItem refl
    ∷ a-span (lead Name Expr refl refl)
    ∷ two Expr Expr refl refl
    ∷ one Expr refl
    ∷ all Name refl
    ∷ all Part refl
    ∷ all Element refl
    ∷ a-span (so-many (λ v. v / 2) Name refl (so-many (λ v. v % 2) Expr refl empty))
    ∷ empty
    ∷ two Name Expr refl refl
    ∷ two Expr Expr refl refl
    ∷ in-front Expr refl (so-many (λ v. v % 2) Expr refl (so-many (λ v. v / 2) Expr refl empty))
    ∷ all Expr refl
    ∷ some_pairs
    ∷ lead Name Expr refl refl
    ∷ one Expr refl
    ∷ so-many (λ v. v % 2) Expr refl
    (so-many (λ v. 2 * (v / 4)) Expr refl (so-many (λ v. v / 2 % 2) Expr refl empty))
    ∷ one Pattern refl
    ∷ lead-one Pattern refl
    ∷ lead-one Expr refl
    ∷ lead Expr Expr refl refl
    ∷ lead Expr MapItem refl refl
    ∷ two Name Expr refl refl
    ∷ one Name refl
    ∷ empty
    ∷ all Declaration refl
    ∷ lead Name LabelItem refl refl
    ∷ lead Name RelTypeItem refl refl
    ∷ in-front Name refl (lead PropertyType Name refl refl)
    ∷ one Name refl
    ∷ two Name Name refl refl
    ∷ two Name PropertyType refl refl
    ∷ all Name refl
    ∷ one Name refl
    ∷ empty
    ∷ []

-- the places that a rule opens
abbrev row_opens : Rule → ℕ → List Place
row_opens r = r.opens

-- the places of a row that keeps to it
abbrev row_places : PairedRow → ℕ → List Place
row_places r = r.places

-- the rows above are those of the table
rows_are : map row_opens rules ≡ map row_places paired-rows
unfolding rules paired-rows
rows_are = refl

-- the row that is found keeps to it
row-paired : (p : Rule → Bool) (rs : List Rule) (qs : List PairedRow) (v : ℕ) → map row_opens rs ≡ map row_places qs
    → Paired ⊥ (opens_by (first p rs) v)
unfolding first
row-paired p [] qs v e = tt
row-paired p (r ∷ rs) [] v e = absurd (let z : ◌≡◌ {A = ℕ} 0 1 = cc in omega arith)
row-paired p (r ∷ rs) (q ∷ qs) v e =
    let h : r.opens ≡ q.places = cc in
    let g : map row_opens rs ≡ map row_places qs = cc in
    go (p r) (subst (λ (f : ℕ → List Place). Paired ⊥ (f v)) (sym h) (q.paired v)) (row-paired p rs qs v g)
  where
    go : (b : Bool) → Paired ⊥ (r.opens v) → Paired ⊥ (opens_by (first p rs) v)
        → Paired ⊥ (opens_by (pick b (Some r) (first p rs)) v)
    go true h g = h
    go false h g = g

-- Whatever a token opens, each end of a span stands behind its start
pub opens-paired : (k v : ℕ) → Paired ⊥ (opens k v)
unfolding opens
opens-paired k v = row-paired (λ r. is_one r.kinds k) rules paired-rows v rows_are

-- ---- the tokens from lo up to hi of the one document stand in the other from `at` on: i of the one is j of the other
-- where at + i ≡ lo + j
pub record Alike (d f : Doc) (lo hi at : ℕ) : Type 0 where
  pub kind : (i j : ℕ) → at + i ≡ lo + j → lo ≤ i → i < hi → kind_of f j ≡ kind_of d i
  pub value : (i j : ℕ) → at + i ≡ lo + j → lo ≤ i → i < hi → (kind_of d i ≡ 50 → ⊥) → value_of f j ≡ value_of d i
  -- a Name may have another number, of a name that is there and has the same text
  pub name : (i j : ℕ) → at + i ≡ lo + j → lo ≤ i → i < hi → kind_of d i ≡ 50 → value_of d i < length d.names
      → value_of f j < length f.names
  pub text : (i j : ℕ) → at + i ≡ lo + j → lo ≤ i → i < hi → kind_of d i ≡ 50 → value_of d i < length d.names
      → name_of f (value_of f j) ≡ name_of d (value_of d i)
  pub inside : at + hi ≤ lo + length f.tokens
  pub few_names : length f.names ≤ any

-- the token before i is a Number from lo on
abbrev pub BehindNumber : Doc → ℕ → ℕ → Type 0
BehindNumber d lo i = (lo < i) × (kind_of d (i - 1) ≡ 51)

module _ {d f : Doc} {lo hi at : ℕ} (s : Alike d f lo hi at) (i j : ℕ) (o : at + i ≡ lo + j) (p : lo ≤ i) (q : i < hi)
  where
    name-moved : bounded d Name i ≡ true → kind_of d i ≡ 50 → bounded f Name j ≡ true
    unfolding bounded
    name-moved b k = lt-ltb (value_of f j) (length f.names) (s.name i j o p q k (ltb-true _ _ b))

    end_moved : bounded d SpanEnd i ≡ true → kind_of d i ≡ 51 → BehindNumber d lo i → bounded f SpanEnd j ≡ true
    unfolding bounded
    end_moved b k h =
        let v : value_of f j ≡ value_of d i = s.value i j o p q (λ e. omega arith) in
        let w : value_of f (j - 1) ≡ value_of d (i - 1) =
        s.value (i - 1) (j - 1) (omega (arith, h.0)) (omega (arith, h.0)) (omega arith) (λ e. omega (arith, h.1)) in
        rw (v, w) b

    bounded-moved : (x : Place) → is_one (takes x) (kind_of d i) ≡ true → (x ≡ SpanEnd → BehindNumber d lo i)
        → bounded d x i ≡ true → bounded f x j ≡ true
    unfolding bounded
    bounded-moved WholeStatement t h b = refl
    bounded-moved Clause t h b = refl
    bounded-moved SetItem t h b = refl
    bounded-moved RemoveItem t h b = refl
    bounded-moved Pattern t h b = refl
    bounded-moved Part t h b = refl
    bounded-moved Element t h b = refl
    bounded-moved Expr t h b = refl
    bounded-moved MapItem t h b = refl
    bounded-moved Name t h b = name-moved b (name-kind (kind_of d i) t)
    bounded-moved SpanStart t h b = refl
    bounded-moved SpanEnd t h b = end_moved b (end-kind (kind_of d i) t) (h refl)
    bounded-moved WholeSchema t h b = refl
    bounded-moved Declaration t h b = refl
    bounded-moved LabelItem t h b = refl
    bounded-moved RelTypeItem t h b = refl
    bounded-moved PropertyType t h b = refl

    allowed-moved : (x : Place) → (x ≡ SpanEnd → BehindNumber d lo i) → allowed d x i ≡ true → allowed f x j ≡ true
    unfolding allowed
    allowed-moved x h a =
        let k = s.kind i j o p q in
        let c = both_true (is_one (takes x) (kind_of d i)) _ a in
        let v = both_true (valued (kind_of d i) (value_of d i)) (bounded d x i) c.1 in
        let y : is_one (takes x) (kind_of f j) ≡ true = rw k c.0 in
        let z : valued (kind_of f j) (value_of f j) ≡ true = ⊎_elim
        (λ e. let g : most_of (kind_of f j) ≡ any = name-most (kind_of f j) (k ∙ e) in
        le-leb (value_of f j) (most_of (kind_of f j))
        (omega (arith, g, s.name i j o p q e (name_below d x i a e), s.few_names)))
        (λ e. rw (k, s.value i j o p q e) v.0)
        (is-or-not (kind_of d i) 50) in
        true-both y (true-both z (bounded-moved x c.0 h v.1))

    opens-moved : opens (kind_of f j) (value_of f j) ≡ opens (kind_of d i) (value_of d i)
    opens-moved = rw (s.kind i j o p q) (⊎_elim
        (λ h. name-opens (kind_of d i) (value_of f j) (value_of d i) h)
        (λ h. ap (opens (kind_of d i)) (s.value i j o p q h))
        (is-or-not (kind_of d i) 50))

-- behind a place that token i filled, an end that waits first follows a Number
next-awaits : (d : Doc) (w : Want) (ws : List Want) (lo i : ℕ) → lo ≤ i → allowed d w.place i ≡ true
    → Awaits (w.place ≡ SpanStart) ws
    → Awaits (BehindNumber d lo (suc i)) (opened (w.depth + 1) (opens (kind_of d i) (value_of d i)) ws)
next-awaits d w ws lo i p a g =
    let t = allowed-taken d w.place i a in
    let start : w.place ≡ SpanStart → is_one (takes SpanStart) (kind_of d i) ≡ true =
    λ e. subst (λ (x : Place). is_one (takes x) (kind_of d i) ≡ true) e t in
    let z : suc i - 1 ≡ i = omega arith in
    filled-awaits (BehindNumber d lo (suc i)) (w.depth + 1) w.place (opens (kind_of d i) (value_of d i)) ws
    (opens-paired (kind_of d i) (value_of d i))
    (λ e. leaf-span-start (kind_of d i) (value_of d i) (start e))
    (λ e. (omega arith, ap (kind_of d) z ∙ start-kind (kind_of d i) (start e))) g

module _ {d f : Doc} {lo hi at : ℕ} (s : Alike d f lo hi at) where
  -- the same of a run, with the tokens left in both documents
  run_moved : (left right : ℕ) (ws : List Want) (i j k l : ℕ) → j + right ≡ length f.tokens → at + i ≡ lo + j
      → at + k ≡ lo + l → lo ≤ i → k ≤ hi → Awaits (BehindNumber d lo i) ws → run d left ws i ≡ Ok k
      → run f right ws j ≡ Ok l
  unfolding run
  run_moved zero zero [] i j k l e o r p q a h = ap Ok (omega (arith, next-same i k h))
  run_moved zero (suc right) [] i j k l e o r p q a h = ap Ok (omega (arith, next-same i k h))
  run_moved (suc left) zero [] i j k l e o r p q a h = ap Ok (omega (arith, next-same i k h))
  run_moved (suc left) (suc right) [] i j k l e o r p q a h = ap Ok (omega (arith, next-same i k h))
  run_moved zero right (w ∷ ws) i j k l e o r p q a h = absurd (let z : ◌≡◌ {A = ℕ} 0 1 = cc in omega arith)
  run_moved (suc left) zero (w ∷ ws) i j k l e o r p q a h =
      let g = went_on (judged d w i) _ k h in
      let os = opens (kind_of d i) (value_of d i) in
      let b = inside-next (run_inside d left (suc i) (opened (w.depth + 1) os ws)) g.1 in
      absurd (omega (arith, s.inside, b.0))
  run_moved (suc left) (suc right) (w ∷ ws) i j k l e o r p q a h =
      let g = went_on (judged d w i) _ k h in
      let os = opens (kind_of d i) (value_of d i) in
      let b = inside-next (run_inside d left (suc i) (opened (w.depth + 1) os ws)) g.1 in
      let c : i < hi = omega (arith, b.0) in
      let x = judged-passed d w i g.0 in
      let y = passed-judged f w j (allowed-moved s i j o p c w.place a.0 x.0) x.1 in
      rw (y, opens-moved s i j o p c)
      (run_moved left right (opened (w.depth + 1) os ws) (suc i) (suc j) k l (omega arith) (omega arith) r
      (omega arith) q (next-awaits d w ws lo i p x.0 a.1) g.1)

  -- What is read from i up to k is read from j up to l
  pub from-moved : (ws : List Want) (i j k l : ℕ) → at + i ≡ lo + j → at + k ≡ lo + l → lo ≤ i → i ≤ hi → k ≤ hi
      → Awaits (BehindNumber d lo i) ws → from d i ws ≡ Ok k → from f j ws ≡ Ok l
  unfolding from
  from-moved ws i j k l o r p m q a h =
      run_moved (length d.tokens - i) (length f.tokens - j) ws i j k l (omega (arith, s.inside)) o r p q a h

  -- The trees of both are the same, where each Name is one of the document's names
  pub same-trees : ((i : ℕ) → lo ≤ i → i < hi → kind_of d i ≡ 50 → value_of d i < length d.names)
      → Same (tree_of d) (tree_of f) lo hi at
  unfolding tree_of
  same-trees b = record {
    kind = s.kind;
    value = λ i j o p q. rw (s.kind i j o p q) (go-value i j o p q (eqb (kind_of d i) 50) refl);
    text = λ i j o p q. rw (s.kind i j o p q) (go-text i j o p q (eqb (kind_of d i) 50) refl);
    inside = s.inside;
  }
    where
      go-value : (i j : ℕ) → at + i ≡ lo + j → lo ≤ i → i < hi → (x : Bool) → eqb (kind_of d i) 50 ≡ x
          → pick x 0 (value_of f j) ≡ pick x 0 (value_of d i)
      go-value i j o p q true e = refl
      go-value i j o p q false e = s.value i j o p q (eqb-false _ _ e)

      go-text : (i j : ℕ) → at + i ≡ lo + j → lo ≤ i → i < hi → (x : Bool) → eqb (kind_of d i) 50 ≡ x
          → pick x (name_of f (value_of f j)) [] ≡ pick x (name_of d (value_of d i)) []
      go-text i j o p q true e = let h = eqb-true _ _ e in s.text i j o p q h (b i p q h)
      go-text i j o p q false e = refl
