-- The steps of the walk, as its functions take them.
use mathlib.Core.Bool.{Bool, true, false}
use mathlib.Core.Logic.{◌⊎◌, inl, inr}
use mathlib.Core.Path.{◌≡◌, sym, ap, ◌∙◌, subst}
use mathlib.Core.List.{List, [], ◌++◌}
use Prim.Native.Nat.{ℕ, suc, ◌+◌, ◌≤◌, ◌<◌}
use native.Mathlib.Numerals.{add-one}
use native.Mathlib.Omega.{arith}
use lib.ListN.{length, length-append}
use Rattle.lists.specs.Lists.{any_of, over}
use Rattle.lists.proofs.Laws.{over-more, over_none, over-join}
use Rattle.frame.specs.Doc.{doc_of, kind_of}
use Rattle.frame.specs.declared.Sizes.{Sizes}
use Rattle.rules.specs.declared.Place.TheVariants.{WholeStatement}
use Rattle.rules.specs.Rules.{arity}
use Rattle.grammar.specs.Tree.{Tree, tree_of, past, end, child, parent}
use Rattle.grammar.proofs.Places.{past-none, past-suc, past-ge, past-mono, end-node, end-gt, parent-child}
use Rattle.grammar.proofs.Formed.{arity-at, formed}
use Rattle.grammar.proofs.Flat.{allowed-inside, tree-kind}
use Rattle.provider.specs.Schema.{Schema}
use Rattle.breach.specs.Breach.{is_element, statement_in, schema_in}
use Rattle.breach.specs.Listing.{node_item, element_items, early, late}
use Rattle.judge.specs.Window.{half_count, WroteItems}
use Rattle.judge.specs.Judging.{Lent, name_items, keyed_items}
use Rattle.judge.specs.declared.Tally.{Tally}
use Rattle.judge.proofs.Wrote.{wrote_none, wrote-join, wrote_as}
use Rattle.walk.specs.declared.Step.{Step}
use Rattle.walk.specs.Walk.{said, most_items, TreeReady, BelowReady, Own, WroteBelow, Walked}
use Rattle.walk.proofs.Merges.{element-silent}

-- ---- where children stand
module _ {s d : List ℕ} {sizes : Sizes} {reg : List ℕ} (z : Lent s d sizes reg) where
  pub size_is : (statement_in s).size ≡ sizes.statement.tokens
  unfolding tree_of
  size_is = z.sheet.tokens

  child-inside : (i k : ℕ) → i < sizes.statement.tokens → k < arity ((statement_in s).kind i) ((statement_in s).value i) → child
      (statement_in s) i k < sizes.statement.tokens
  child-inside i k h l =
      let b : i < length (doc_of s).tokens = omega (arith, z.sheet.tokens) in
      let a = formed (doc_of s) WholeStatement z.read i b k (omega (arith, arity-at (doc_of s) i)) in
      omega (arith, z.sheet.tokens, allowed-inside (doc_of s) _ (child (statement_in s) i k) a)

  -- child k of token i, at `at`
  module _ (i k at : ℕ) (h : i < sizes.statement.tokens) (l : k < arity ((statement_in s).kind i) ((statement_in s).value i))
      (e : at ≡ past (statement_in s) k (suc i)) where
    pub at-inside : at < sizes.statement.tokens
    at-inside = subst (λ (j : ℕ). j < sizes.statement.tokens) (sym e) (child-inside i k h l)

    pub parent_is : parent (statement_in s) at ≡ i
    parent_is =
        ap (parent (statement_in s)) e
        ∙ parent-child (statement_in s) i k (omega (arith, size_is)) l (omega (arith, size_is, child-inside i k h l))

    -- the tree at `at` lies within that of i
    pub after-own : suc i ≤ at
    after-own = omega (arith, e, past-ge (statement_in s) k (suc i))

    pub next-is : past (statement_in s) (k + 1) (suc i) ≡ end (statement_in s) at
    next-is = ap (λ (j : ℕ). past (statement_in s) j (suc i)) (add-one k) ∙ past-suc (statement_in s) k (suc i) ∙ ap
        (end (statement_in s)) (sym e)

    pub within : end (statement_in s) at ≤ end (statement_in s) i
    within =
        let n = end-node (statement_in s) i (omega (arith, size_is)) in
        let m = past-mono (statement_in s) (k + 1) (arity ((statement_in s).kind i) ((statement_in s).value i)) (suc i)
        (omega arith) in
        omega (arith, n, m, next-is)

    pub at-end : at ≤ end (statement_in s) at
    at-end = past-ge (statement_in s) 1 at

-- ---- what is written, part by part
module _ (m : Bool) (t : Tree) (sc : Schema) where
  pub split : (a b c e : ℕ) → a ≤ b → b ≤ c → c ≤ e → length (over (said m t sc) a e) ≡ length (over (said m t sc) a b) +
      length (over (said m t sc) b c) + length (over (said m t sc) c e)
  split a b c e p q r =
      let j = over-join (said m t sc) a b c p q in
      let k = over-join (said m t sc) a c e (omega arith) r in
      omega (
        arith,
        ap length j,
        ap length k,
        length-append (over (said m t sc) a b) (over (said m t sc) b c),
        length-append (over (said m t sc) a c) (over (said m t sc) c e),
      )

  pub own_first : (i : ℕ) → i < t.size → over (said m t sc) i (end t i) ≡ said m t sc i ++ over (said m t sc) (suc i)
      (end t i)
  own_first i h = over-more (said m t sc) i (end t i) (end-gt t i h) ∙ ap
      (λ (j : ℕ). said m t sc i ++ over (said m t sc) j (end t i)) (add-one i)

-- no child yet
pub none_yet : (m : Bool) (s d : List ℕ) (i : ℕ) (w : Tally) (l : List ℕ)
    → (i + 1 ≡ past (statement_in s) 0 (suc i)) × WroteItems
    (over (said m (statement_in s) (schema_in d)) (suc i) (i + 1)) w l w l
none_yet m s d i w l = (
  add-one i ∙ sym (past-none (statement_in s) (suc i)),
  wrote_as (sym (over_none (said m (statement_in s) (schema_in d)) (suc i) (i + 1) (omega arith))) wrote_none,
)

module _ (m : Bool) (s d : List ℕ) (sizes : Sizes) {reg : List ℕ} (i : ℕ) (n : Tally) (l : List ℕ) where
  -- room below token i, after its own items
  pub room-below : {c : Tally} {l' : List ℕ} → TreeReady m s d sizes reg i n → Own m (statement_in s) (schema_in d) i n l c l'
      → BelowReady m s d sizes reg i c
  room-below {c} {l'} r w = record {
    lent = r.lent;
    here = r.here;
    room = omega (
      arith,
      r.room,
      w.count,
      ap length (own_first m (statement_in s) (schema_in d) i (omega (arith, r.here, size_is r.lent))),
      length-append (said m (statement_in s) (schema_in d) i)
          (over (said m (statement_in s) (schema_in d)) (suc i) (end (statement_in s) i)),
    );
  }

  -- room in a child, after those before it
  pub room-child : {k at : ℕ} {c : Tally} {l' : List ℕ} → BelowReady m s d sizes reg i n → k < arity ((statement_in s).kind i)
      ((statement_in s).value i) → at ≡ past (statement_in s) k (suc i)
      → WroteItems (over (said m (statement_in s) (schema_in d)) (suc i) at) n l c l' → TreeReady m s d sizes reg at c
  room-child {k} {at} {c} {l'} r h e w = record {
    lent = r.lent;
    here = at-inside r.lent i k at r.here h e;
    room = omega (
      arith,
      r.room,
      w.count,
      split m (statement_in s) (schema_in d) (suc i) at (end (statement_in s) at) (end (statement_in s) i)
          (after-own r.lent i k at r.here h e) (at-end r.lent i k at r.here h e)
          (within r.lent i k at r.here h e),
    );
  }

  -- one child more, all children
  pub one_more_lem : {k at : ℕ} {c : Tally} {l₁ l₂ : List ℕ} {r : Step} → Lent s d sizes reg → i < sizes.statement.tokens → k < arity
      ((statement_in s).kind i) ((statement_in s).value i) → at ≡ past (statement_in s) k (suc i)
      → WroteItems (over (said m (statement_in s) (schema_in d)) (suc i) at) n l c l₁ → Walked m (statement_in s)
      (schema_in d) at c l₁ r l₂
      → (r.next ≡ past (statement_in s) (k + 1) (suc i)) × WroteItems
      (over (said m (statement_in s) (schema_in d)) (suc i) r.next) n l r.tally l₂
  one_more_lem {k} {at} {c} {l₁} {l₂} {r} z b h e w q = (
    q.next ∙ sym (next-is z i k at b h e),
    wrote_as
        (over-join (said m (statement_in s) (schema_in d)) (suc i) at (end (statement_in s) at)
        (after-own z i k at b h e) (at-end z i k at b h e)
        ∙ ap (over (said m (statement_in s) (schema_in d)) (suc i)) (sym q.next))
        (wrote-join w q.wrote),
  )

  pub all_done : {k many : ℕ} {r : Step} {l' : List ℕ} → Lent s d sizes reg → i < sizes.statement.tokens → many ≡ arity
      ((statement_in s).kind i) ((statement_in s).value i) → k ≤ many → many ≤ k
      → r.next ≡ past (statement_in s) k (suc i) → WroteItems
      (over (said m (statement_in s) (schema_in d)) (suc i) r.next) n l r.tally l'
      → WroteBelow m (statement_in s) (schema_in d) i n l r l'
  all_done {k} {many} {r} {l'} z b a p q e w =
      let o : k ≡ arity ((statement_in s).kind i) ((statement_in s).value i) = omega arith in
      let x = e ∙ ap (λ (j : ℕ). past (statement_in s) j (suc i)) o ∙ sym
      (end-node (statement_in s) i (omega (arith, size_is z))) in
      record { next = x; wrote = wrote_as (ap (over (said m (statement_in s) (schema_in d)) (suc i)) x) w }

  -- a token's own items and those below it
  pub whole-tree : {c : Tally} {l₁ l₂ : List ℕ} {r : Step} → TreeReady m s d sizes reg i n
      → Own m (statement_in s) (schema_in d) i n l c l₁ → WroteBelow m (statement_in s) (schema_in d) i c l₁ r l₂
      → Walked m (statement_in s) (schema_in d) i n l r l₂
  whole-tree y w q = record {
    next = q.next;
    wrote = wrote_as (sym (own_first m (statement_in s) (schema_in d) i (omega (arith, y.here, size_is y.lent))))
        (wrote-join w q.wrote);
  }

-- ---- the later pass over an element, whose properties it leaves out
late-said : (m : Bool) (t : Tree) (sc : Schema) (a b : ℕ) → m ≡ true → over (late t sc) a b ≡ over (said m t sc) a b
unfolding said
late-said m t sc a b e = rw e

pub left_out : (m : Bool) (s d : List ℕ) (sizes : Sizes) {reg : List ℕ} (i : ℕ) (n : Tally) (l : List ℕ) {l' : List ℕ}
    {r : Step} → m ≡ true → is_element (kind_of (doc_of s) i) ≡ true → TreeReady m s d sizes reg i n
    → r.next ≡ end (statement_in s) i → Own m (statement_in s) (schema_in d) i n l r.tally l' → Walked m
    (statement_in s) (schema_in d) i n l r l'
left_out m s d sizes i n l h e y p w =
    let o = element-silent (doc_of s) y.lent.read i (omega (arith, y.here, y.lent.sheet.tokens)) e (schema_in d)
    in
    whole-tree m s d sizes i n l y w
    (record {
      next = p;
      wrote = wrote_as (sym o ∙ late-said m (statement_in s) (schema_in d) (suc i)
          (end (statement_in s) i) h) wrote_none;
    })

-- ---- a Pattern or a Part has no items of its own
silent-at : (m : Bool) (t : Tree) (sc : Schema) (i : ℕ) → (t.kind i ≡ 60) ⊎ (t.kind i ≡ 61) → said m t sc i ≡ []
unfolding said early late any_of
silent-at false t sc i (inl e) = rw e
silent-at false t sc i (inr e) = rw e
silent-at true t sc i (inl e) = rw e
silent-at true t sc i (inr e) = rw e

pub none-own : (m : Bool) (s d : List ℕ) (i : ℕ) (n : Tally) (l : List ℕ)
    → (kind_of (doc_of s) i ≡ 60) ⊎ (kind_of (doc_of s) i ≡ 61) → Own m (statement_in s) (schema_in d) i n l n l
unfolding tree_of
none-own m s d i n l e = wrote_as (sym (silent-at m (statement_in s) (schema_in d) i e)) wrote_none

pub below-arity : {k m a : ℕ} → k < m → m ≡ a → k < a
below-arity h e = omega arith

-- ---- a token's own items, by pass
pub said-early : (m : Bool) (t : Tree) (sc : Schema) (i : ℕ) → m ≡ false → early t sc i ≡ said m t sc i
unfolding said
said-early m t sc i e = rw e

pub said-late : (m : Bool) (t : Tree) (sc : Schema) (i : ℕ) → m ≡ true → late t sc i ≡ said m t sc i
unfolding said
said-late m t sc i e = rw e

-- a token that is no element has none in the later pass
pub late-none : (t : Tree) (sc : Schema) (i : ℕ) → is_element (t.kind i) ≡ false → [] ≡ late t sc i
unfolding late
late-none t sc i e = rw e

element-early : (t : Tree) (sc : Schema) (i : ℕ) → is_element (t.kind i) ≡ true → name_items t sc i ++ node_item t sc i
    ++ keyed_items t sc i ≡ early t sc i
unfolding early element_items
element-early t sc i e = rw e

module _ (m : Bool) (s d : List ℕ) (sizes : Sizes) {reg : List ℕ} (i : ℕ) (n : Tally)
    (r : TreeReady m s d sizes reg i n) where
  pub room-own : n.count + length (said m (statement_in s) (schema_in d) i) ≤ most_items
  room-own = omega (
    arith,
    r.room,
    ap length (own_first m (statement_in s) (schema_in d) i (omega (arith, r.here, size_is r.lent))),
    length-append (said m (statement_in s) (schema_in d) i)
        (over (said m (statement_in s) (schema_in d)) (suc i) (end (statement_in s) i)),
  )

  -- an element's: names, labels together, keys
  module _ (h : m ≡ false) (e : is_element (kind_of (doc_of s) i) ≡ true) where
    parts : name_items (statement_in s) (schema_in d) i ++ node_item (statement_in s) (schema_in d) i ++ keyed_items
        (statement_in s) (schema_in d) i ≡ said m (statement_in s) (schema_in d) i
    parts =
        element-early (statement_in s) (schema_in d) i (ap is_element (tree-kind (doc_of s) i) ∙ e)
        ∙ said-early m (statement_in s) (schema_in d) i h

    room-parts : n.count + length (name_items (statement_in s) (schema_in d) i) + length
        (node_item (statement_in s) (schema_in d) i) ≤ most_items
    room-parts = omega (
      arith,
      room-own,
      ap length parts,
      length-append (name_items (statement_in s) (schema_in d) i ++ node_item (statement_in s) (schema_in d) i)
          (keyed_items (statement_in s) (schema_in d) i),
      length-append (name_items (statement_in s) (schema_in d) i) (node_item (statement_in s) (schema_in d) i),
    )

    module _ {c₁ : Tally} {l l₁ : List ℕ}
        (w₁ : WroteItems (name_items (statement_in s) (schema_in d) i) n l c₁ l₁) where
      pub room-node : c₁.count < half_count
      room-node = omega (arith, room-parts, w₁.count)

      module _ {c₂ : Tally} {l₂ : List ℕ} (w₂ : WroteItems (node_item (statement_in s) (schema_in d) i) c₁ l₁ c₂ l₂) where
        pub room-keys : c₂.count < half_count
        room-keys = omega (arith, room-parts, w₁.count, w₂.count)

        pub element-own : {c₃ : Tally} {l₃ : List ℕ}
            → WroteItems (keyed_items (statement_in s) (schema_in d) i) c₂ l₂ c₃ l₃
            → Own m (statement_in s) (schema_in d) i n l c₃ l₃
        element-own w₃ = wrote_as parts (wrote-join (wrote-join w₁ w₂) w₃)
