-- Where the names of an accepted statement stand: right behind an expression's Call stands its function's name, and no
-- name of an element, of a Set's Labels, of a procedure or of a Map does.
use mathlib.Core.Bool.{true}
use mathlib.Core.Logic.{⊎_elim}
use mathlib.Core.Path.{◌≡◌, refl, sym, ◌∙◌, subst}
use mathlib.Core.List.{[]}
use Prim.Native.Nat.{ℕ, zero, suc, ◌+◌, ◌-◌, ◌*◌, ◌/◌, ◌%◌, ◌≤◌, ◌<◌}
use native.Mathlib.Omega.{arith}
use lib.ListN.{length, get_or}
use Rattle.lists.specs.Lists.{table, first, any_of}
use Rattle.lists.proofs.Tests.{below}
use Rattle.frame.specs.Doc.{Doc, kind_of, value_of}
use Rattle.rules.specs.Kinds as Kind
use Rattle.rules.specs.declared.Place.TheVariants.{WholeStatement, Name, SpanStart, SpanEnd, Expr}
use Rattle.rules.specs.Rules.{many, rules, opens, arity}
use Rattle.rules.proofs.Rows.{many-length}
use Rattle.rules.proofs.Children.{many-at, element-opens}
use Rattle.grammar.specs.Machine.{grammar_fault}
use Rattle.grammar.specs.Inner.{Leaf}
use Rattle.grammar.specs.Tree.{Tree, tree_of, end, child}
use Rattle.grammar.proofs.Places.{past-none, past-suc, past-ge, past-mono, end-node, end-gt, nest}
use Rattle.grammar.proofs.Below.{leaf-name, leaf-span-start, leaf-span-end, element-leaf}
use Rattle.grammar.proofs.Flat.{tree-value, allowed-inside, place_of, flat, flat-allowed}
use Rattle.grammar.proofs.Skipping.{call-count}
use Rattle.breach.specs.Breach.{is_element}
use Rattle.breach.proofs.Exact.{element-cases}
use Rattle.breach.proofs.Shapes.{shaped}
use Rattle.std.specs.Prelude.{None}

-- token p is there, right behind one that is no expression's Call
pub record Free (t : Tree) (p : ℕ) : Type 0 where
  pub before : ℕ
  pub next : p ≡ suc before
  pub there : p < t.size
  pub other : t.kind before ≡ Kind.FunctionCall → ⊥

-- ---- the token in front of a child
-- a function's Call holds a token: its name
call-arity : (k v : ℕ) → k ≡ Kind.FunctionCall → arity k v ≡ 1 + v
unfolding arity
call-arity k v e = sym (call-count k v e)

module _ (t : Tree) where
  -- a Call whose name is there does not end a tree: the next token belongs to it
  call-goes-on : (j : ℕ) → t.kind j ≡ Kind.FunctionCall → suc j < t.size → suc j < end t j
  call-goes-on j k b =
      let a = call-arity (t.kind j) (t.value j) k in
      let e = end-node t j (omega arith) in
      let m = past-mono t 1 (arity (t.kind j) (t.value j)) (suc j) (omega arith) in
      omega (arith, end-gt t (suc j) b)

  -- in front of a child stands the token that it belongs to, or the last one of the child before
  no-call-before : (i c j : ℕ) → (t.kind i ≡ Kind.FunctionCall → ⊥) → child t i c ≡ suc j → suc j < t.size
      → t.kind j ≡ Kind.FunctionCall → ⊥
  no-call-before i zero j n e b k =
      let z : j ≡ i = omega (arith, past-none t (suc i)) in
      n (subst (λ (x : ℕ). t.kind x ≡ Kind.FunctionCall) z k)
  no-call-before i (suc c) j n e b k =
      let g : end t (child t i c) ≡ suc j = sym (past-suc t c (suc i)) ∙ e in
      let m = past-mono t c (suc c) (suc i) (omega arith) in
      let o = end-gt t (child t i c) (omega arith) in
      omega (arith, nest t 1 (child t i c) j (omega arith) (omega arith), call-goes-on j k b)

  -- No expression's Call stands right in front of what belongs to another token
  pub child-free : (i c : ℕ) → (t.kind i ≡ Kind.FunctionCall → ⊥) → child t i c < t.size → Free t (child t i c)
  child-free i c n b =
      let e : child t i c ≡ suc (child t i c - 1) = omega (arith, past-ge t c (suc i)) in
      record { before = child t i c - 1; next = e; there = b; other = no-call-before i c _ n e (omega arith) }

-- ---- what a clause's Call and a Set's Labels open
procedure-opens : (k v : ℕ) → k ≡ Kind.ProcedureCall → (2 < length (opens k v)) × (get_or (opens k v) 0 Expr ≡ SpanStart)
    × (get_or (opens k v) 1 Expr ≡ SpanEnd)
unfolding opens rules first any_of table
procedure-opens k v e = rw e (omega arith, refl, refl)

set-opens : (k v : ℕ) → k ≡ Kind.SetLabels → opens k v ≡ many v Name []
unfolding opens rules first any_of table
set-opens k v e = rw e

-- ---- an accepted statement
module _ (d : Doc) (some : 0 < length d.tokens) (h : grammar_fault WholeStatement d ≡ None) where
  abbrev t : Tree
  t = tree_of d

  -- a token that has a kind is there
  present : (i : ℕ) → 1 ≤ t.kind i → i < t.size
  present i k = ⊎_elim (λ p. p) (λ p. absurd (omega (arith, (shaped d some h).rooted.outside i p))) (below i t.size)

  module _ (i : ℕ) (b : i < length d.tokens) where
    -- a child behind others that hold nothing is there
    flat-there : (c : ℕ) → c < length (opens (kind_of d i) (value_of d i))
        → ((a : ℕ) → a < c → Leaf (place_of d WholeStatement h i b a)) → i + 1 + c < t.size
    unfolding tree_of
    flat-there c l f =
        allowed-inside d (place_of d WholeStatement h i b c) (i + 1 + c) (flat-allowed d WholeStatement h i b c l f)

    -- and no expression's Call stands in front of it
    flat_free : (c : ℕ) → c < length (opens (kind_of d i) (value_of d i))
        → ((a : ℕ) → a < c → Leaf (place_of d WholeStatement h i b a)) → (t.kind i ≡ Kind.FunctionCall → ⊥)
        → Free t (i + 1 + c)
    flat_free c l f n =
        let e : child t i c ≡ i + 1 + c = flat d WholeStatement h i b c (omega arith) f in
        subst (Free t) e (child-free t i c n (omega (arith, flat-there c l f)))

  -- the name of a function is there
  pub function-there : (i : ℕ) → t.kind i ≡ Kind.FunctionCall → i + 1 < t.size
  unfolding tree_of
  function-there i k =
      let b = present i (omega arith) in
      let n = call-count (kind_of d i) (value_of d i) k in
      omega (arith, flat-there i b 0 (omega arith) (λ a l. absurd (omega arith)))

  -- each name of an element
  pub name_free : (i j : ℕ) → is_element (t.kind i) ≡ true → i + 3 ≤ j → j < i + 3 + t.value i / 2 → Free t j
  unfolding tree_of
  name_free i j el p q =
      let k = element-cases (kind_of d i) el in
      let b = present i (⊎_elim (λ e. omega arith) (λ e. omega arith) k) in
      let v = value_of d i in
      let tv : t.value i ≡ v = tree-value d i (λ e. ⊎_elim (λ f. omega arith) (λ f. omega arith) k) in
      let o = element-opens (kind_of d i) v el in
      let c = j - (i + 1) in
      let m : c < length (opens (kind_of d i) v) =
      rw o (omega (arith, many-length (v / 2) Name (many (v % 2) Expr []))) in
      let z : i + 1 + c ≡ j = omega arith in
      subst (Free t) z (flat_free i b c m (λ a l. rw o (element-leaf v a (omega arith)))
      (λ e. ⊎_elim (λ f. omega arith) (λ f. omega arith) k))

  -- the name of a procedure
  pub procedure-free : (i : ℕ) → t.kind i ≡ Kind.ProcedureCall → Free t (i + 3)
  unfolding tree_of
  procedure-free i k =
      let b = present i (omega arith) in
      let o = procedure-opens (kind_of d i) (value_of d i) k in
      let leaf : (a : ℕ) → a < 2 → Leaf (place_of d WholeStatement h i b a) =
      λ a l. ⊎_elim (λ p. let w : a ≡ 0 = omega arith in rw (w, o.1) leaf-span-start)
      (λ p. let w : a ≡ 1 = omega arith in rw (w, o.2) leaf-span-end) (below a 1) in
      let z : i + 1 + 2 ≡ i + 3 = omega arith in
      subst (Free t) z (flat_free i b 2 o.0 leaf (λ e. omega arith))

  -- each label of a Set's Labels
  pub label-free : (i j : ℕ) → t.kind i ≡ Kind.SetLabels → i + 1 ≤ j → j < i + 1 + t.value i → Free t j
  unfolding tree_of
  label-free i j k p q =
      let b = present i (omega arith) in
      let v = value_of d i in
      let tv : t.value i ≡ v = tree-value d i (λ e. omega arith) in
      let o = set-opens (kind_of d i) v k in
      let c = j - (i + 1) in
      let m : c < length (opens (kind_of d i) v) = rw o (omega (arith, many-length v Name [])) in
      let z : i + 1 + c ≡ j = omega arith in
      subst (Free t) z
      (flat_free i b c m (λ a l. rw (o, many-at v a Name Expr [] (omega arith)) leaf-name) (λ e. omega arith))

  -- each key of a Map
  pub key-free : (p k : ℕ) → t.kind p ≡ Kind.Map → k < t.value p → Free t (child t p (2 * k))
  key-free p k e l =
      let n = (shaped d some h).keys-of p k e l in
      child-free t p (2 * k) (λ f. omega arith) (present (child t p (2 * k)) (omega arith))
