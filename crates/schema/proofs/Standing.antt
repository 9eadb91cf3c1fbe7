-- Where the tokens of an accepted schema stand: declarations below the first token, items below a Label or a RelType,
-- and no other token is of a kind of theirs.
use mathlib.Core.Bool.{true}
use mathlib.Core.Path.{◌≡◌, refl, sym, ap, ◌∙◌, subst}
use mathlib.Core.List.{[], ◌∷◌}
use mathlib.Core.Logic.{◌⊎◌, inl, inr, ⊎_elim}
use Prim.Native.Nat.{ℕ, zero, suc, ◌≤◌, ◌<◌}
use native.Mathlib.Omega.{arith}
use lib.ListN.{length, get_or}
use Rattle.lists.specs.Lists.{table, first, any_of, through, is_one, is_empty}
use Rattle.lists.proofs.Tests.{below}
use Rattle.lists.proofs.Ranges.{through-bounds, through-in, every_from, every-at}
use Rattle.frame.specs.Doc.{Doc, kind_of, value_of}
use Rattle.rules.specs.declared.Place.{Place}
use Rattle.rules.specs.declared.Place.TheVariants.{WholeStatement, Clause, SetItem, RemoveItem, Pattern, Part, Element, Expr, MapItem, Name, SpanStart, SpanEnd, WholeSchema, Declaration, LabelItem, RelTypeItem, PropertyType}
use Rattle.rules.specs.Rules.{takes, rules, many, opens, arity}
use Rattle.rules.proofs.Rows.{taken-by, empty-is, many-length}
use Rattle.rules.proofs.Children.{many-at}
use Rattle.frame.proofs.Laws.{no_fault}
use Rattle.grammar.specs.Machine.{want, allowed, run, left_over, grammar_fault}
use Rattle.grammar.specs.Tree.{tree_of, end, child, parent}
use Rattle.grammar.proofs.Places.{past-ge, parent-child, parent_in}
use Rattle.grammar.proofs.Formed.{arity-at, formed, first-covers, first-allowed, schema-rooted, schema-counts}
use Rattle.grammar.proofs.Below.{leaf-name}
use Rattle.grammar.proofs.Flat.{tree-kind, tree-value, allowed-taken, allowed-inside}
use Rattle.grammar.proofs.Skipping.{child-of}
use Rattle.schema.specs.Inner.{Declaring, Owning, Itemizing}
use Rattle.std.specs.Prelude.{None}

-- a token of kind k has this place at its child c; the first token's place is no child's, so k is no kind
abbrev Seat : ℕ → ℕ → Place → Type 0
Seat k c WholeSchema = k ≡ 0
Seat k c Declaration = k ≡ 100
Seat k c LabelItem = Owning k × (0 < c)
Seat k c RelTypeItem = Owning k × (0 < c)
Seat k c PropertyType = Unit {0}
Seat k c Name = Unit {0}
Seat k c WholeStatement = ⊥
Seat k c Clause = ⊥
Seat k c SetItem = ⊥
Seat k c RemoveItem = ⊥
Seat k c Pattern = ⊥
Seat k c Part = ⊥
Seat k c Element = ⊥
Seat k c Expr = ⊥
Seat k c MapItem = ⊥
Seat k c SpanStart = ⊥
Seat k c SpanEnd = ⊥

-- every child of a token of kind k has such a place
abbrev Seats : ℕ → Type 0
Seats k = (v c : ℕ) → c < length (opens k v) → Seat k c (get_or (opens k v) c Expr)

seat-many : (n c k e : ℕ) (p : Place) → c < length (many n p []) → Seat k e p → Seat k e (get_or (many n p []) c Expr)
seat-many n c k e p h s = rw (many-at n c p Expr [] (omega (arith, many-length n p []))) s

schema-seats : Seats 100
unfolding opens rules first any_of table
schema-seats v c h = seat-many v c 100 c Declaration h refl

label-seats : Seats 101
unfolding opens rules first any_of table
label-seats v zero h = tt
label-seats v (suc c) h = seat-many v c 101 (suc c) LabelItem (omega arith) (refl, omega arith)

rel-type-seats : Seats 102
unfolding opens rules first any_of table
rel-type-seats v zero h = tt
rel-type-seats v (suc c) h = seat-many v c 102 (suc c) RelTypeItem (omega arith) (refl, omega arith)

parameter-seats : Seats 103
unfolding opens rules first any_of table
parameter-seats v zero h = tt
parameter-seats v (suc zero) h = tt
parameter-seats v (suc (suc c)) h = seat-many v c 103 (suc (suc c)) Name (omega arith) tt

tuple-seats : Seats 111
unfolding opens rules first any_of table
tuple-seats v c h = seat-many v c 111 c Name h tt

-- nothing, one Name, a Name and one more
module _ (k : ℕ) where
  no-seats : ((v : ℕ) → opens k v ≡ []) → Seats k
  no-seats e v c h = let l : length (opens k v) ≡ 0 = ap length (e v) in absurd (omega arith)

  one-seat : ((v : ℕ) → opens k v ≡ Name ∷ []) → Seats k
  one-seat e v c h = rw (e v) (go c (rw (e v) at h))
    where
      go : (c : ℕ) → c < 1 → Seat k c (get_or (Name ∷ []) c Expr)
      go zero g = tt
      go (suc c) g = absurd (omega arith)

  two-seats : (p : Place) → ((c : ℕ) → Seat k c p) → ((v : ℕ) → opens k v ≡ Name ∷ p ∷ []) → Seats k
  two-seats p s e v c h = rw (e v) (go c (rw (e v) at h))
    where
      go : (c : ℕ) → c < 2 → Seat k c (get_or (Name ∷ p ∷ []) c Expr)
      go zero g = tt
      go (suc zero) g = s 1
      go (suc (suc c)) g = absurd (omega arith)

type-opens : (k v : ℕ) → is_one (takes PropertyType) k ≡ true → opens k v ≡ []
unfolding takes every_from opens rules first any_of table
type-opens k v h =
    let b = through-bounds 120 128 k h in
    sym (empty-is (opens k v) (every-at (λ k. is_empty (opens k v)) 9 120 k refl b.0 (omega (arith, b.1))))

opens-seats : (q : Place) (a c k : ℕ) → Seat a c q → is_one (takes q) k ≡ true → Seats k
unfolding takes opens rules first any_of table
opens-seats WholeSchema a c k s h = taken-by Seats (100 ∷ []) k h (schema-seats, tt)
opens-seats Declaration a c k s h = taken-by Seats (101 ∷ 102 ∷ 103 ∷ 104 ∷ 105 ∷ 106 ∷ []) k h (
  label-seats,
  (
    rel-type-seats,
    (
      parameter-seats,
      (one-seat 104 (λ v. refl), (one-seat 105 (λ v. refl), (two-seats 106 Name (λ c. tt) (λ v. refl), tt))),
    ),
  ),
)
opens-seats LabelItem a c k s h = taken-by Seats (110 ∷ 111 ∷ []) k h
    (two-seats 110 PropertyType (λ c. tt) (λ v. refl), (tuple-seats, tt))
opens-seats RelTypeItem a c k s h = taken-by Seats (110 ∷ 111 ∷ 112 ∷ 113 ∷ []) k h (
  two-seats 110 PropertyType (λ c. tt) (λ v. refl),
  (tuple-seats, (one-seat 112 (λ v. refl), (one-seat 113 (λ v. refl), tt))),
)
opens-seats PropertyType a c k s h = no-seats k (λ v. type-opens k v h)
opens-seats Name a c k s h = no-seats k (λ v. leaf-name k v h)
opens-seats WholeStatement a c k s h = absurd s
opens-seats Clause a c k s h = absurd s
opens-seats SetItem a c k s h = absurd s
opens-seats RemoveItem a c k s h = absurd s
opens-seats Pattern a c k s h = absurd s
opens-seats Part a c k s h = absurd s
opens-seats Element a c k s h = absurd s
opens-seats Expr a c k s h = absurd s
opens-seats MapItem a c k s h = absurd s
opens-seats SpanStart a c k s h = absurd s
opens-seats SpanEnd a c k s h = absurd s

-- a token of kind j that is child c of one of kind k: where it is a declaration, an item, or a whole schema
record Stands (k c j : ℕ) : Type 0 where
  decl : Declaring j → k ≡ 100
  item : Itemizing j → Owning k × (0 < c)
  whole : j ≡ 100 → k ≡ 0

-- no number is in two ranges that lie apart
off : {A : Type 0} (a b c e j : ℕ) → is_one (through a b) j ≡ true → is_one (through c e) j ≡ true → (b < c) ⊎ (e < a) → A
off a b c e j g h l =
    let x = through-bounds a b j g in
    let y = through-bounds c e j h in
    ⊎_elim (λ o. absurd (omega (arith, x.1, y.0))) (λ o. absurd (omega (arith, x.0, y.1))) l

hundred : (a b j : ℕ) → is_one (through a b) j ≡ true → j ≡ 100 → (a ≤ 100) × (100 ≤ b)
hundred a b j h e = let x = through-bounds a b j h in (omega (arith, x.0), omega (arith, x.1))

stands-there : (q : Place) (k c j : ℕ) → Seat k c q → is_one (takes q) j ≡ true → Stands k c j
unfolding takes table
stands-there WholeSchema k c j s h = record {
  decl = λ e. off 100 100 101 106 j h e (inl (omega arith));
  item = λ e. off 100 100 110 113 j h e (inl (omega arith));
  whole = λ e. s;
}
stands-there Declaration k c j s h = record {
  decl = λ e. s;
  item = λ e. off 101 106 110 113 j h e (inl (omega arith));
  whole = λ e. absurd (omega (arith, (hundred 101 106 j h e).0));
}
stands-there LabelItem k c j s h = record {
  decl = λ e. off 110 111 101 106 j h e (inr (omega arith));
  item = λ e. s;
  whole = λ e. absurd (omega (arith, (hundred 110 111 j h e).0));
}
stands-there RelTypeItem k c j s h = record {
  decl = λ e. off 110 113 101 106 j h e (inr (omega arith));
  item = λ e. s;
  whole = λ e. absurd (omega (arith, (hundred 110 113 j h e).0));
}
stands-there PropertyType k c j s h = record {
  decl = λ e. off 120 128 101 106 j h e (inr (omega arith));
  item = λ e. off 120 128 110 113 j h e (inr (omega arith));
  whole = λ e. absurd (omega (arith, (hundred 120 128 j h e).0));
}
stands-there Name k c j s h = record {
  decl = λ e. off 50 50 101 106 j h e (inl (omega arith));
  item = λ e. off 50 50 110 113 j h e (inl (omega arith));
  whole = λ e. absurd (omega (arith, (hundred 50 50 j h e).1));
}
stands-there WholeStatement k c j s h = absurd s
stands-there Clause k c j s h = absurd s
stands-there SetItem k c j s h = absurd s
stands-there RemoveItem k c j s h = absurd s
stands-there Pattern k c j s h = absurd s
stands-there Part k c j s h = absurd s
stands-there Element k c j s h = absurd s
stands-there Expr k c j s h = absurd s
stands-there MapItem k c j s h = absurd s
stands-there SpanStart k c j s h = absurd s
stands-there SpanEnd k c j s h = absurd s

pub size_of : (d : Doc) → (tree_of d).size ≡ length d.tokens
unfolding tree_of
size_of d = refl

schema-opens : (k v : ℕ) → k ≡ 100 → opens k v ≡ many v Declaration []
unfolding opens rules first any_of table
schema-opens k v e = rw e

declaring : (k : ℕ) → is_one (takes Declaration) k ≡ true → Declaring k
unfolding takes
declaring k h = h

pub owning-declares : (k : ℕ) → Owning k → Declaring k
owning-declares k e = let x = through-bounds 101 102 k e in through-in 101 106 k x.0 (omega (arith, x.1))

-- a schema has a token, the first
pub some_tokens : (d : Doc) → grammar_fault WholeSchema d ≡ None → 0 < length d.tokens
unfolding grammar_fault run
some_tokens d h = go (length d.tokens) h
  where
    go : (n : ℕ) → left_over n (run d n (want WholeSchema 0 ∷ []) 0) ≡ None → 0 < n
    go zero e = no_fault e
    go (suc n) e = omega arith

-- a kind that is none opens nothing
no-children : (k v : ℕ) → k ≡ 0 → arity k v ≡ 0
unfolding arity opens rules first any_of table
no-children k v e = rw e

module _ (d : Doc) (h : grammar_fault WholeSchema d ≡ None) where
  -- token j fills a place of a schema's
  abbrev Seated : ℕ → Type 0
  Seated j = (q : Place) × (k c : ℕ) × Seat k c q × (allowed d q j ≡ true)

  -- and so does each of its children
  module _ (p c : ℕ) (z : Seated p) (b : p < length d.tokens) (l : c < length (opens (kind_of d p) (value_of d p)))
    where
      abbrev placed : Place
      placed = get_or (opens (kind_of d p) (value_of d p)) c Expr

      child-seat : Seat (kind_of d p) c placed
      child-seat = opens-seats z.0 z.1 z.2 (kind_of d p) z.3 (allowed-taken d z.0 p z.4)
          (value_of d p) c l

      child-fills : allowed d placed (child (tree_of d) p c) ≡ true
      child-fills = formed d WholeSchema h p b c l

  -- by a number n above j
  seated-by : (n j : ℕ) → j < n → j < length d.tokens → Seated j
  unfolding tree_of
  seated-by zero j g b = absurd (omega arith)
  seated-by (suc n) j g b = ⊎_elim
      (λ a. let r = child-of (tree_of d) j a b (first-covers d WholeSchema h) in
      let o : r.1 < length (opens (kind_of d r.0) (value_of d r.0)) = omega (arith, arity-at d r.0, r.3) in
      let z = seated-by n r.0 (omega (arith, past-ge (tree_of d) r.1 (suc r.0), r.4)) r.2 in (
        placed r.0 r.1 z r.2 o,
        kind_of d r.0,
        r.1,
        child-seat r.0 r.1 z r.2 o,
        subst (λ (n : ℕ). allowed d (placed r.0 r.1 z r.2 o) n ≡ true) r.4
            (child-fills r.0 r.1 z r.2 o),
      ))
      (λ a. let z : 0 ≡ j = omega arith in (
        WholeSchema,
        0,
        0,
        refl,
        subst (λ (n : ℕ). allowed d WholeSchema n ≡ true) z (first-allowed d WholeSchema h (omega arith)),
      ))
      (below 0 j)

  -- a token after the first is a child, and stands where its kind may
  under : (j : ℕ) → 0 < j → j < length d.tokens → (p c : ℕ) × (p < length d.tokens)
      × (c < arity ((tree_of d).kind p) ((tree_of d).value p)) × (child (tree_of d) p c ≡ j) × Stands (kind_of d p) c
      (kind_of d j)
  unfolding tree_of
  under j a b =
      let r = child-of (tree_of d) j a b (first-covers d WholeSchema h) in
      let o : r.1 < length (opens (kind_of d r.0) (value_of d r.0)) = omega (arith, arity-at d r.0, r.3) in
      let z = seated-by (suc r.0) r.0 (omega arith) r.2 in
      let f = allowed-taken d (placed r.0 r.1 z r.2 o) (child (tree_of d) r.0 r.1)
      (child-fills r.0 r.1 z r.2 o) in (
        r.0,
        r.1,
        r.2,
        r.3,
        r.4,
        subst (λ (n : ℕ). Stands (kind_of d r.0) r.1 (kind_of d n)) r.4
            (stands-there (placed r.0 r.1 z r.2 o) (kind_of d r.0) r.1 _
            (child-seat r.0 r.1 z r.2 o) f),
      )

  whole-first : (p : ℕ) → p < length d.tokens → kind_of d p ≡ 100 → p ≡ 0
  whole-first p b e = ⊎_elim
      (λ a. let u = under p a b in
      let n = no-children ((tree_of d).kind u.0) ((tree_of d).value u.0) (tree-kind d u.0 ∙ u.5.whole e) in
      absurd (omega (arith, n, u.3)))
      (λ a. omega arith)
      (below 0 p)

  pub after_first : (j : ℕ) → j < length d.tokens → (kind_of d j ≡ 100 → ⊥) → 0 < j
  after_first j b n = ⊎_elim
      (λ a. a)
      (λ a. let z : j ≡ 0 = omega arith in
      absurd (n (ap (kind_of d) z ∙ sym (tree-kind d 0) ∙ (schema-rooted d (omega arith) h).root)))
      (below 0 j)

  first-counts : 0 < length d.tokens → arity ((tree_of d).kind 0) ((tree_of d).value 0) ≡ (tree_of d).value 0
  first-counts b =
      ap (λ (n : ℕ). arity n ((tree_of d).value 0)) (schema-rooted d b h).root ∙ schema-counts ((tree_of d).value 0)

  -- a declaration is a child of the first token
  pub decl-child : (j : ℕ) → j < length d.tokens → Declaring (kind_of d j) → (c : ℕ) × (c < (tree_of d).value 0)
      × (child (tree_of d) 0 c ≡ j)
  decl-child j b k =
      let o = through-bounds 101 106 (kind_of d j) k in
      let a = after_first j b (λ e. omega (arith, o.0)) in
      let u = under j a b in
      let z : u.0 ≡ 0 = whole-first u.0 u.2 (u.5.decl k) in
      let e : arity ((tree_of d).kind u.0) ((tree_of d).value u.0) ≡ (tree_of d).value 0 =
      ap (λ (p : ℕ). arity ((tree_of d).kind p) ((tree_of d).value p)) z ∙ first-counts (omega arith) in
      (u.1, omega (arith, u.3), ap (λ (p : ℕ). child (tree_of d) p u.1) (sym z) ∙ u.4)

  -- and a child of the first token is a declaration
  pub child-decl : (c : ℕ) → 0 < length d.tokens → c < (tree_of d).value 0 → (child (tree_of d) 0 c < length
      d.tokens)
      × Declaring (kind_of d (child (tree_of d) 0 c))
  child-decl c b l =
      let k : kind_of d 0 ≡ 100 = sym (tree-kind d 0) ∙ (schema-rooted d b h).root in
      let v : (tree_of d).value 0 ≡ value_of d 0 = tree-value d 0 (λ e. omega arith) in
      let o : opens (kind_of d 0) (value_of d 0) ≡ many (value_of d 0) Declaration [] = schema-opens (kind_of d 0)
      (value_of d 0) k in
      let p : get_or (opens (kind_of d 0) (value_of d 0)) c Expr ≡ Declaration = rw o
      (many-at (value_of d 0) c Declaration Expr [] (omega arith)) in
      let a : allowed d Declaration (child (tree_of d) 0 c) ≡ true = subst
      (λ (q : Place). allowed d q (child (tree_of d) 0 c) ≡ true) p (formed d WholeSchema h 0 b c
      (omega (arith, ap length o, many-length (value_of d 0) Declaration []))) in (
        allowed-inside d Declaration (child (tree_of d) 0 c) a,
        declaring _ (allowed-taken d Declaration (child (tree_of d) 0 c) a),
      )

  -- an item is a child, after the Name, of a Label or a RelType
  pub item-child : (j : ℕ) → j < length d.tokens → Itemizing (kind_of d j) → (i c : ℕ) × (i < length d.tokens)
      × Owning (kind_of d i) × (0 < c) × (c < arity ((tree_of d).kind i) ((tree_of d).value i)) × (child (tree_of d) i c ≡ j)
  item-child j b k =
      let o = through-bounds 110 113 (kind_of d j) k in
      let u = under j (after_first j b (λ e. omega (arith, o.0))) b in
      let q = u.5.item k in
      (u.0, u.1, u.2, q.0, q.1, u.3, u.4)

  -- so none of its tree's other tokens is a declaration
  pub decl-outside : (r j : ℕ) → 0 < r → r < j → j < end (tree_of d) r → j < length d.tokens → Declaring (kind_of d j)
      → ⊥
  decl-outside r j a l g b k =
      let x = decl-child j b k in
      let n = size_of d in
      let p : parent (tree_of d) j ≡ 0 = ap (parent (tree_of d)) (sym x.2) ∙ parent-child (tree_of d) 0 x.0
      (omega arith) (omega (arith, x.1, first-counts (omega arith))) (omega (arith, x.2)) in
      omega (arith, p, (parent_in (tree_of d) r j l g).0)

  -- and none of an item's, or of another child's, in a declaration's tree is an item
  pub item-outside : (i r j : ℕ) → 0 < i → i < r → end (tree_of d) r ≤ end (tree_of d) i → r < j → j < end (tree_of d) r
      → j < length d.tokens → Itemizing (kind_of d j) → ⊥
  unfolding tree_of
  item-outside i r j a o n l g b k =
      let x = item-child j b k in
      let p : parent (tree_of d) j ≡ x.0 = ap (parent (tree_of d)) (sym x.6) ∙ parent-child (tree_of d) x.0 x.1
      x.2 x.5 (rw x.6 b) in
      let q = parent_in (tree_of d) r j l g in
      decl-outside i x.0 a (omega (arith, p, q.0)) (omega (arith, p, q.1)) x.2
      (owning-declares (kind_of d x.0) x.3)
