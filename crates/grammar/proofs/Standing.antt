-- What is read at once, from the tests that the code makes: a kind that has one rule needs no look at the rules.
use mathlib.Core.Path.{◌≡◌, refl, sym, ap, ◌∙◌}
use mathlib.Core.List.{List, [], ◌∷◌}
use mathlib.Core.Bool.{true}
use mathlib.Core.Logic.{⊎_elim}
use Prim.Native.Nat.{ℕ, ◌+◌, ◌-◌, ◌≤◌, ◌<◌}
use native.Mathlib.Omega.{arith}
use lib.ListN.{length}
use borrow.Author.Tests.{lt-ltb, le-leb}
use Rattle.lists.specs.Lists.{table, first, any_of, is_one}
use Rattle.lists.proofs.Ranges.{every_from, every-at}
use Rattle.frame.specs.Limits.{max_depth, max_names}
use Rattle.frame.specs.Doc.{Doc, kind_of, value_of}
use Rattle.frame.specs.declared.Fault.{Fault}
use Rattle.rules.specs.declared.Place.{Place}
use Rattle.rules.specs.declared.Place.TheVariants.{Pattern, Part, Element, Expr, Name, SpanStart, SpanEnd, LabelItem, RelTypeItem, PropertyType}
use Rattle.rules.specs.Rules.{takes, rules, any, most_of, opens, many, pairs}
use Rattle.rules.specs.Shapes.{span_places}
use Rattle.rules.proofs.Rows.{type-ruled, taken-by}
use Rattle.grammar.specs.Machine.{want, opened, bounded, allowed, judged, after}
use Rattle.grammar.specs.Inner.{from, Stands, Item}
use Rattle.grammar.proofs.Laws.{Entered, from-nil, from_step, chain}
use Rattle.grammar.proofs.Below.{through, small-opens}
use Rattle.std.specs.Prelude.{Option, None, Result, Ok}

-- a token without fault
sound-at : (d : Doc) (p : Place) (depth at : ℕ) → is_one (takes p) (kind_of d at) ≡ true → value_of d at ≤ most_of
    (kind_of d at) → bounded d p at ≡ true → depth ≤ max_depth → judged d (want p depth) at ≡ None
unfolding judged allowed
sound-at d p depth at t v b h = simp (t, le-leb (value_of d at) (most_of (kind_of d at)) v, b, le-leb depth max_depth h)

-- kinds that a place takes, by a test of the whole range
small-taken : (k : ℕ) → 1 ≤ k → k ≤ 9 → is_one (takes Expr) k ≡ true
unfolding every_from takes table any_of
small-taken k g h = every-at (λ k. is_one (takes Expr) k) 9 1 k refl g (omega arith)

element-taken : (k : ℕ) → 62 ≤ k → k ≤ 63 → is_one (takes Element) k ≡ true
unfolding every_from takes table any_of
element-taken k g h = every-at (λ k. is_one (takes Element) k) 2 62 k refl g (omega arith)

element-most : (k : ℕ) → is_one (takes Element) k ≡ true → most_of k ≡ any
unfolding takes most_of rules first any_of table
element-most k h = taken-by (λ k. most_of k ≡ any) (62 ∷ 63 ∷ []) k h (refl, (refl, tt))

type-taken : (k : ℕ) → 120 ≤ k → k ≤ 128 → is_one (takes PropertyType) k ≡ true
unfolding every_from takes table any_of
type-taken k g h = every-at (λ k. is_one (takes PropertyType) k) 9 120 k refl g (omega arith)

type-opens : (k v : ℕ) → 120 ≤ k → k ≤ 128 → v ≤ 63 → (v ≤ most_of k) × (opens k v ≡ [])
unfolding many pairs
type-opens k v g h l =
    let r = type-ruled v k g (omega arith) in
    let m : v ≤ most_of k = omega (arith, r.most, l) in
    (m, sym (r.below m))

module _ {d : Doc} {at depth : ℕ} where
  -- a token that stands where a place takes its kind
  enters : (p : Place) {low high : ℕ} → Stands d at depth low high → bounded d p at ≡ true → is_one (takes p)
      (kind_of d at) ≡ true
      → value_of d at ≤ most_of (kind_of d at) → Entered d p depth at
  enters p i b t v =
      record {
        inside = i.inside;
        taken = t;
        valued = v;
        shallow = i.shallow;
        goes = from_step d at (want p depth) [] i.inside ∙ ap (λ (q : Option Fault). after q
            (from d (at + 1) (opened (depth + 1) (opens (kind_of d at) (value_of d at)) [])))
            (sound-at d p depth at t v b i.shallow);
      }

  stood : {k : ℕ} → Stands d at depth k k → kind_of d at ≡ k
  stood i = omega (arith, i.least, i.greatest)

  -- one kind, and what its rule opens
  of-kind : (p : Place) (k v : ℕ) (ps : List Place) → Stands d at depth k k → v ≡ value_of d at → bounded d p at ≡ true
      → is_one (takes p) k ≡ true → v ≤ most_of k → opens k v ≡ ps → {r : Result ℕ Fault} → r ≡ from d (at + 1)
      (opened (depth + 1) ps []) → r ≡ from d at (want p depth ∷ [])
  of-kind p k v ps i ev b t m o f =
      let e = stood i in
      through (enters p i b (rw e t) (rw (e, ← ev) m)) ps (rw (e, ← ev) o) f

  pub name-read : (m v : ℕ) → Stands d at depth 50 50 → length d.names ≡ m → m ≤ max_names → v ≡ value_of d at → v < m
      → Ok (at + 1) ≡ from d at (want Name depth ∷ [])
  unfolding takes bounded most_of opens rules first any_of table opened
  name-read m v i z few ev h =
      let l : v ≤ any = omega arith in
      of-kind Name 50 v [] i ev (rw (z, ← ev) (lt-ltb v m h)) refl l refl (sym (from-nil d (at + 1)))

  start-read : (v : ℕ) → Stands d at depth 51 51 → v ≡ value_of d at → v ≤ any → Ok (at + 1) ≡ from d at
      (want SpanStart depth ∷ [])
  unfolding takes bounded most_of opens rules first any_of table opened
  start-read v i ev l = of-kind SpanStart 51 v [] i ev refl refl l refl (sym (from-nil d (at + 1)))

  end_read : (v w : ℕ) → Stands d at depth 51 51 → v ≡ value_of d (at - 1) → w ≡ value_of d at → w ≤ any → v ≤ w → Ok
      (at + 1) ≡ from d at (want SpanEnd depth ∷ [])
  unfolding takes bounded most_of opens rules first any_of table opened
  end_read v w i ev ew l h =
      of-kind SpanEnd 51 w [] i ew (rw (← ev, ← ew) (le-leb v w h)) refl l refl (sym (from-nil d (at + 1)))

  pub small-read : (v : ℕ) → Stands d at depth 1 9 → v ≡ value_of d at → v ≡ 0 → Ok (at + 1) ≡ from d at
      (want Expr depth ∷ [])
  unfolding bounded opened
  small-read v i ev z =
      let l : kind_of d at < 10 = omega (arith, i.greatest) in
      let m : value_of d at ≤ most_of (kind_of d at) = omega (arith, ev, z) in
      through (enters Expr i refl (small-taken (kind_of d at) i.least i.greatest) m) []
      (small-opens (kind_of d at) (value_of d at) l)
      (sym (from-nil d (at + 1)))

  pub type-read : (v : ℕ) → Stands d at depth 120 128 → v ≡ value_of d at → v ≤ 63 → Ok (at + 1) ≡ from d at
      (want PropertyType depth ∷ [])
  unfolding bounded opened
  type-read v i ev l =
      let o = type-opens (kind_of d at) (value_of d at) i.least i.greatest (omega (arith, ev, l)) in
      through (enters PropertyType i refl (type-taken (kind_of d at) i.least i.greatest) o.0) [] o.1
      (sym (from-nil d (at + 1)))

  pub element-enters : (v : ℕ) → Stands d at depth 62 63 → v ≡ value_of d at → v ≤ any → Entered d Element depth at
  unfolding bounded
  element-enters v i ev l =
      let t = element-taken (kind_of d at) i.least i.greatest in
      enters Element i refl t (omega (arith, element-most (kind_of d at) t, ev, l))

  module _ (v : ℕ) (ev : v ≡ value_of d at) {r : Result ℕ Fault} where
    pub map_read : Stands d at depth 14 14 → v ≤ any → r ≡ from d (at + 1) (opened (depth + 1) (pairs v []) [])
        → r ≡ from d at (want Expr depth ∷ [])
    unfolding takes bounded most_of opens rules first any_of table
    map_read i l f = of-kind Expr 14 v (pairs v []) i ev refl refl l refl f

    pub list_read : Stands d at depth 13 13 → v ≤ any → r ≡ from d (at + 1) (opened (depth + 1) (many v Expr []) [])
        → r ≡ from d at (want Expr depth ∷ [])
    unfolding takes bounded most_of opens rules first any_of table
    list_read i l f = of-kind Expr 13 v (many v Expr []) i ev refl refl l refl f

    pub pattern-read : Stands d at depth 60 60 → v ≤ any → r ≡ from d (at + 1) (opened (depth + 1) (many v Part []) [])
        → r ≡ from d at (want Pattern depth ∷ [])
    unfolding takes bounded most_of opens rules first any_of table
    pattern-read i l f = of-kind Pattern 60 v (many v Part []) i ev refl refl l refl f

    pub part-read : Stands d at depth 61 61 → v ≤ any → r ≡ from d (at + 1) (opened (depth + 1) (many v Element []) [])
        → r ≡ from d at (want Part depth ∷ [])
    unfolding takes bounded most_of opens rules first any_of table
    part-read i l f = of-kind Part 61 v (many v Element []) i ev refl refl l refl f

    pub prop-read : Stands d at depth 10 10 → v ≤ 0 → r ≡ from d (at + 1) (opened (depth + 1) (pairs 1 []) [])
        → r ≡ from d at (want Expr depth ∷ [])
    unfolding takes bounded most_of opens rules first any_of table pairs
    prop-read i l f = of-kind Expr 10 v (pairs 1 []) i ev refl refl l refl f

  -- a Property in the places of items
  label-property : (v : ℕ) → v ≡ value_of d at → Stands d at depth 110 110 → v ≤ 1 → {r : Result ℕ Fault} → r ≡ from d (at + 1)
      (opened (depth + 1) (Name ∷ PropertyType ∷ []) []) → r ≡ from d at (want LabelItem depth ∷ [])
  unfolding takes bounded most_of opens rules first any_of table
  label-property v ev i l f = of-kind LabelItem 110 v (Name ∷ PropertyType ∷ []) i ev refl refl l refl f

  type-property : (v : ℕ) → v ≡ value_of d at → Stands d at depth 110 110 → v ≤ 1 → {r : Result ℕ Fault} → r ≡ from d (at + 1)
      (opened (depth + 1) (Name ∷ PropertyType ∷ []) []) → r ≡ from d at (want RelTypeItem depth ∷ [])
  unfolding takes bounded most_of opens rules first any_of table
  type-property v ev i l f = of-kind RelTypeItem 110 v (Name ∷ PropertyType ∷ []) i ev refl refl l refl f

-- a start and an end
pub both_ends : (d : Doc) (at depth v w : ℕ) → Stands d at depth 51 51 → Stands d (at + 1) depth 51 51 → v ≡ value_of d
    at → w ≡ value_of d (at + 1) → v ≤ any → w ≤ any → v ≤ w → Ok (at + 2) ≡ from d at
    (opened depth (span_places 1 []) [])
unfolding opened many
both_ends d at depth v w i j ev ew lv lw h =
    let e : at + 1 - 1 ≡ at = omega arith in
    let g : at + 1 + 1 ≡ at + 2 = omega arith in
    let start = start-read v i ev lv in
    let stop = end_read v w j (ev ∙ ap (value_of d) (sym e)) ew lw h in
    sym (ap Ok g) ∙ chain d at (want SpanStart depth ∷ []) (want SpanEnd depth ∷ []) start stop

-- a Property, its Name and its type
pub property-read : (d : Doc) (at depth v : ℕ) (p : Place) → Item p → v ≡ value_of d at → Stands d at depth 110 110 → v
    ≤ 1 → Ok (at + 1 + 1) ≡ from d (at + 1) (want Name (depth + 1) ∷ []) → Ok (at + 2 + 1) ≡ from d (at + 2)
    (want PropertyType (depth + 1) ∷ [])
    → Ok (at + 3) ≡ from d at (want p depth ∷ [])
unfolding opened
property-read d at depth v p w ev i l name type =
    let e : at + 1 + 1 ≡ at + 2 = omega arith in
    let g : at + 2 + 1 ≡ at + 3 = omega arith in
    let first : Ok (at + 2) ≡ from d (at + 1) (want Name (depth + 1) ∷ []) = sym (ap Ok e) ∙ name in
    let f = sym (ap Ok g) ∙ chain d (at + 1) (want Name (depth + 1) ∷ []) (want PropertyType (depth + 1) ∷ []) first
    type in
    ⊎_elim (λ s. rw s (label-property v ev i l f)) (λ s. rw s (type-property v ev i l f)) w
