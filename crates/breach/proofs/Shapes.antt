-- What the grammar says of an accepted statement's elements and Maps: how many tokens belong to them, and that
-- starts, ends, Names and keys hold none.
use mathlib.Core.Bool.{true}
use mathlib.Core.Logic.{⊎_elim, ◌⊎◌, inl, inr}
use mathlib.Core.Path.{◌≡◌, subst}
use mathlib.Core.List.{[]}
use Prim.Native.Nat.{ℕ, zero, suc, ◌+◌, ◌*◌, ◌/◌, ◌%◌, ◌≤◌, ◌<◌}
use native.Mathlib.Omega.{arith}
use borrow.Author.Tests.{ne_eqb}
use lib.ListN.{length, get_or}
use Rattle.lists.specs.Lists.{table, first, any_of, is_one}
use Rattle.lists.proofs.Tests.{below, both_true}
use Rattle.frame.specs.Doc.{Doc, kind_of, value_of}
use Rattle.rules.specs.declared.Place.{Place}
use Rattle.rules.specs.declared.Place.TheVariants.{WholeStatement, Name, Expr}
use Rattle.rules.specs.Rules.{takes, many, rules, opens, arity}
use Rattle.grammar.specs.Machine.{allowed, grammar_fault}
use Rattle.grammar.specs.Tree.{Tree, tree_of, child}
use Rattle.rules.proofs.Rows.{many-length}
use Rattle.rules.proofs.Children.{many-at, pairs-length, pairs-at, element_places, element-opens, map-opens, name-kind, start-kind, end-kind}
use Rattle.grammar.proofs.Formed.{Rooted, Formed, formed, statement-rooted}
use Rattle.breach.specs.Breach.{is_element}
use Rattle.breach.proofs.Exact.{element-cases}
use Rattle.std.specs.Prelude.{None}

-- a Name or a Number
abbrev pub Leaf : Tree → ℕ → Type 0
Leaf t j = (t.kind j ≡ 50) ⊎ (t.kind j ≡ 51)

pub record Shaped (t : Tree) : Type 0 where
  pub rooted : Rooted 90 t
  -- a leaf holds no token
  pub leaf : (j : ℕ) → Leaf t j → arity (t.kind j) (t.value j) ≡ 0
  -- an element: start, end, Names, properties e
  pub element : (i : ℕ) → is_element (t.kind i) ≡ true → arity (t.kind i) (t.value i) ≡ (2 + t.value i / 2) + t.value i % 2
  pub leaves : (i c : ℕ) → is_element (t.kind i) ≡ true → c < 2 + t.value i / 2 → Leaf t (child t i c)
  -- a Map: pairs Name, e
  pub pairs_of : (p : ℕ) → t.kind p ≡ 14 → arity (t.kind p) (t.value p) ≡ 2 * t.value p
  pub keys-of : (p k : ℕ) → t.kind p ≡ 14 → k < t.value p → t.kind (child t p (2 * k)) ≡ 50

-- ---- the rows of the rules
leaf-arity : (k v : ℕ) → (k ≡ 50) ⊎ (k ≡ 51) → arity k v ≡ 0
unfolding arity opens rules first any_of table
leaf-arity k v h = ⊎_elim (λ e. rw e) (λ e. rw e) h

pub element-arity : (k v : ℕ) → is_element k ≡ true → arity k v ≡ (2 + v / 2) + v % 2
unfolding arity
element-arity k v h = rw (element-opens k v h) (omega (
  arith,
  many-length (v / 2) Name (many (v % 2) Expr []),
  many-length (v % 2) Expr [],
))

element-kind : (v c k : ℕ) → c < 2 + v / 2 → is_one (takes (get_or (element_places v) c Expr)) k ≡ true → (k ≡ 50)
    ⊎ (k ≡ 51)
element-kind v zero k h t = inr (start-kind k t)
element-kind v (suc zero) k h t = inr (end-kind k t)
element-kind v (suc (suc c)) k h t = inl (name-kind k (subst (λ (p : Place). is_one (takes p) k ≡ true)
    (many-at (v / 2) c Name Expr (many (v % 2) Expr []) (omega arith)) t))

pub map-arity : (k v : ℕ) → k ≡ 14 → arity k v ≡ 2 * v
unfolding arity
map-arity k v e = rw (map-opens k v e) (omega (arith, pairs-length v []))

-- ---- a document whose tokens are all formed
module _ (d : Doc) (root : Rooted 90 (tree_of d)) (ok : (j : ℕ) → j < length d.tokens → Formed d j) where
  -- a token that has a kind is there
  in-doc : (i : ℕ) → 1 ≤ kind_of d i → i < length d.tokens
  unfolding tree_of
  in-doc i h = ⊎_elim (λ p. p) (λ p. absurd (omega (arith, root.outside i p))) (below i (length d.tokens))

  value-at : (i : ℕ) → (kind_of d i ≡ 50 → ⊥) → (tree_of d).value i ≡ value_of d i
  unfolding tree_of
  value-at i h = rw (ne_eqb (kind_of d i) 50 h)

  -- the kind of a child fits its place
  child-kind : (i c : ℕ) (p : Place) → i < length d.tokens → c < length (opens (kind_of d i) (value_of d i))
      → get_or (opens (kind_of d i) (value_of d i)) c Expr ≡ p → is_one (takes p) (kind_of d (child (tree_of d) i c)) ≡ true
  unfolding allowed
  child-kind i c p b n e =
      let a = subst (λ (z : Place). allowed d z (child (tree_of d) i c) ≡ true) e (ok i b c n) in
      (both_true (is_one (takes p) (kind_of d (child (tree_of d) i c))) _ a).0

  element-leaf : (i c : ℕ) → is_element (kind_of d i) ≡ true → c < 2 + value_of d i / 2
      → (kind_of d (child (tree_of d) i c) ≡ 50) ⊎ (kind_of d (child (tree_of d) i c) ≡ 51)
  element-leaf i c e h =
      let o = element-opens (kind_of d i) (value_of d i) e in
      let b : i < length d.tokens = in-doc i (⊎_elim (λ f. omega arith) (λ f. omega arith)
      (element-cases (kind_of d i) e)) in
      let n : c < length (opens (kind_of d i) (value_of d i)) = rw o
      (omega (arith, many-length (value_of d i / 2) Name (many (value_of d i % 2) Expr []))) in
      element-kind (value_of d i) c _ h (child-kind i c (get_or (element_places (value_of d i)) c Expr) b n (rw o))

  map-key : (p k : ℕ) → kind_of d p ≡ 14 → k < value_of d p → kind_of d (child (tree_of d) p (2 * k)) ≡ 50
  map-key p k e h =
      let o = map-opens (kind_of d p) (value_of d p) e in
      let b : p < length d.tokens = in-doc p (omega arith) in
      let n : 2 * k < length (opens (kind_of d p) (value_of d p)) = rw o (omega (arith, pairs-length (value_of d p) [])) in
      name-kind _ (child-kind p (2 * k) Name b n (rw o (pairs-at (value_of d p) k h)))

  all-shaped : Shaped (tree_of d)
  unfolding tree_of
  all-shaped = record {
    rooted = root;
    leaf = λ j h. leaf-arity (kind_of d j) ((tree_of d).value j) h;
    element = λ i e. element-arity (kind_of d i) ((tree_of d).value i) e;
    leaves = λ i c e h. element-leaf i c e
        (let v = value-at i (λ z. ⊎_elim (λ f. omega arith) (λ f. omega arith) (element-cases (kind_of d i) e)) in
        subst (λ (w : ℕ). c < 2 + w / 2) v h);
    pairs_of = λ p e. map-arity (kind_of d p) ((tree_of d).value p) e;
    keys-of = λ p k e h. map-key p k e (let v = value-at p (λ z. omega arith) in subst (λ (w : ℕ). k < w) v h);
  }

-- an accepted statement has these shapes
pub shaped : (d : Doc) → 0 < length d.tokens → grammar_fault WholeStatement d ≡ None → Shaped (tree_of d)
shaped d b h = all-shaped d (statement-rooted d b h) (formed d WholeStatement h)
