-- Where the first children of a token stand: as long as they have nothing below them, one after the other. And what a
-- token says that fills the place of a Name.
use mathlib.Core.Bool.{true, false}
use mathlib.Core.Path.{◌≡◌, refl, sym, ap, ◌∙◌, subst}
use mathlib.Core.List.{List, []}
use mathlib.Core.Logic.{⊎_elim}
use Prim.Native.Nat.{ℕ, zero, suc, ◌+◌, ◌≤◌, ◌<◌}
use native.Mathlib.Omega.{arith}
use borrow.Author.Tests.{eq-eqb, ne_eqb, ltb-true}
use lib.ListN.{length, get_or, get_or-eq_default}
use Rattle.lists.specs.Lists.{table, any_of, is_one}
use Rattle.lists.proofs.Tests.{never, both_true, below}
use Rattle.frame.specs.Doc.{Doc, Token, kind_of, value_of, name_of}
use Rattle.rules.specs.declared.Place.{Place}
use Rattle.rules.specs.declared.Place.TheVariants.{WholeStatement, Clause, SetItem, RemoveItem, Pattern, Part, Element, Expr, MapItem, Name, SpanStart, SpanEnd, WholeSchema, Declaration, LabelItem, RelTypeItem, PropertyType}
use Rattle.rules.specs.Rules.{takes, valued, many, opens, arity}
use Rattle.grammar.specs.Machine.{bounded, allowed, grammar_fault}
use Rattle.grammar.specs.Inner.{Leaf, NameAt}
use Rattle.grammar.specs.Tree.{Tree, tree_of, past, end, child}
use Rattle.rules.proofs.Rows.{many-length}
use Rattle.rules.proofs.Children.{many-at, name-kind}
use Rattle.grammar.proofs.Below.{leaf-name}
use Rattle.grammar.proofs.Places.{past-none, past-suc, end-node}
use Rattle.grammar.proofs.Formed.{arity-at, formed}
use Rattle.std.specs.Prelude.{None}

-- ---- the tree's tokens are the document's
module _ (d : Doc) (i : ℕ) where
  pub tree-kind : (tree_of d).kind i ≡ kind_of d i
  unfolding tree_of
  tree-kind = refl

  pub tree-value : (kind_of d i ≡ 50 → ⊥) → (tree_of d).value i ≡ value_of d i
  unfolding tree_of
  tree-value h = rw (ne_eqb (kind_of d i) 50 h)

  pub tree-text : kind_of d i ≡ 50 → (tree_of d).text i ≡ name_of d (value_of d i)
  unfolding tree_of
  tree-text h = rw (eq-eqb (kind_of d i) 50 h)

-- the text that `text_of` reads
pub text-read : (d : Doc) (i v : ℕ) (n : List ℕ) → NameAt d i → v ≡ value_of d i → n ≡ name_of d v → n ≡ (tree_of d).text i
text-read d i v n z ev en = en ∙ ap (name_of d) ev ∙ sym (tree-text d i z.kind)

-- no place takes kind 0, which a token past the end would have
no_kind : (p : Place) → is_one (takes p) 0 ≡ false
unfolding takes any_of table
no_kind WholeStatement = refl
no_kind Clause = refl
no_kind SetItem = refl
no_kind RemoveItem = refl
no_kind Pattern = refl
no_kind Part = refl
no_kind Element = refl
no_kind Expr = refl
no_kind MapItem = refl
no_kind Name = refl
no_kind SpanStart = refl
no_kind SpanEnd = refl
no_kind WholeSchema = refl
no_kind Declaration = refl
no_kind LabelItem = refl
no_kind RelTypeItem = refl
no_kind PropertyType = refl

module _ (d : Doc) (p : Place) (i : ℕ) (a : allowed d p i ≡ true) where
  pub allowed-taken : is_one (takes p) (kind_of d i) ≡ true
  unfolding allowed
  allowed-taken = (both_true (is_one (takes p) (kind_of d i)) _ a).0

  pub allowed-bounded : bounded d p i ≡ true
  unfolding allowed
  allowed-bounded = (both_true (valued (kind_of d i) (value_of d i)) (bounded d p i)
      (both_true (is_one (takes p) (kind_of d i)) _ a).1).1

  pub allowed-inside : i < length d.tokens
  allowed-inside = ⊎_elim
      (λ h. h)
      (λ h. let z : kind_of d i ≡ 0 = ap (λ (t : Token). t.kind)
      (get_or-eq_default d.tokens (record { kind = 0; value = 0 }) h) in
      never (sym (no_kind p) ∙ ap (is_one (takes p)) (sym z) ∙ allowed-taken))
      (below i (length d.tokens))

-- ---- a token in the place of a Name
bounded-name : (d : Doc) (i : ℕ) → bounded d Name i ≡ true → value_of d i < length d.names
unfolding bounded
bounded-name d i h = ltb-true (value_of d i) (length d.names) h

-- no other place takes a Name
name-place : (o : Place) → is_one (takes o) 50 ≡ true → o ≡ Name
unfolding takes any_of table
name-place WholeStatement h = never h
name-place Clause h = never h
name-place SetItem h = never h
name-place RemoveItem h = never h
name-place Pattern h = never h
name-place Part h = never h
name-place Element h = never h
name-place Expr h = never h
name-place MapItem h = never h
name-place Name h = refl
name-place SpanStart h = never h
name-place SpanEnd h = never h
name-place WholeSchema h = never h
name-place Declaration h = never h
name-place LabelItem h = never h
name-place RelTypeItem h = never h
name-place PropertyType h = never h

-- A Name that fills a place is one of the document's names
pub name_below : (d : Doc) (o : Place) (i : ℕ) → allowed d o i ≡ true → kind_of d i ≡ 50
    → value_of d i < length d.names
name_below d o i a e =
    let t = allowed-taken d o i a in
    bounded-name d i (subst (λ (p : Place). bounded d p i ≡ true) (name-place o (rw e at t)) (allowed-bounded d o i a))

pub name-at : (d : Doc) (i : ℕ) → allowed d Name i ≡ true → NameAt d i
name-at d i a =
    let k = name-kind (kind_of d i) (allowed-taken d Name i a) in
    record { inside = allowed-inside d Name i a; kind = k; below = bounded-name d i (allowed-bounded d Name i a) }

-- ---- children that stand one after the other
pub leaf-end : (t : Tree) (i : ℕ) → i < t.size → arity (t.kind i) (t.value i) ≡ 0 → end t i ≡ suc i
leaf-end t i h e = end-node t i h ∙ ap (λ (n : ℕ). past t n (suc i)) e ∙ past-none t (suc i)

module _ (d : Doc) (p : Place) (h : grammar_fault p d ≡ None) (j : ℕ) (b : j < length d.tokens) where
  -- the place of child c
  abbrev pub place_of : ℕ → Place
  place_of c = get_or (opens (kind_of d j) (value_of d j)) c Expr

  after-leaf : (i c : ℕ) → child (tree_of d) j c ≡ i → c < length (opens (kind_of d j) (value_of d j)) → Leaf (place_of c)
      → end (tree_of d) i ≡ suc i
  unfolding tree_of
  after-leaf i c e l f =
      let a : allowed d (place_of c) i ≡ true = subst (λ (n : ℕ). allowed d (place_of c) n ≡ true) e
      (formed d p h j b c l) in
      let o : opens (kind_of d i) (value_of d i) ≡ [] = f (kind_of d i) (value_of d i) (allowed-taken d (place_of c) i a) in
      leaf-end (tree_of d) i (allowed-inside d (place_of c) i a) (arity-at d i ∙ ap length o)

  pub flat : (c : ℕ) → c ≤ length (opens (kind_of d j) (value_of d j)) → ((a : ℕ) → a < c → Leaf (place_of a)) → child
      (tree_of d) j c ≡ j + 1 + c
  flat zero l f = past-none (tree_of d) (suc j) ∙ omega arith
  flat (suc c) l f =
      let e = flat c (omega arith) (λ a q. f a (omega arith)) in
      past-suc (tree_of d) c (suc j) ∙ ap (end (tree_of d)) e ∙ after-leaf (j + 1 + c) c e l (f c (omega arith)) ∙ omega
      arith

  -- such a child fills its place
  pub flat-allowed : (c : ℕ) → c < length (opens (kind_of d j) (value_of d j)) → ((a : ℕ) → a < c → Leaf (place_of a))
      → allowed d (place_of c) (j + 1 + c) ≡ true
  flat-allowed c l f = subst (λ (n : ℕ). allowed d (place_of c) n ≡ true) (flat c (omega arith) f) (formed d p h j b c l)

-- ---- Names and nothing else
pub names-below : (d : Doc) (p : Place) → grammar_fault p d ≡ None → (j n : ℕ) → j < length d.tokens → opens
    (kind_of d j) (value_of d j) ≡ many n Name []
    → (c : ℕ) → c < n → NameAt d (j + 1 + c)
names-below d p h j n b e c l =
    let m : length (opens (kind_of d j) (value_of d j)) ≡ n = omega (arith, ap length e, many-length n Name []) in
    let place : (a : ℕ) → a < n → get_or (opens (kind_of d j) (value_of d j)) a Expr ≡ Name =
    λ a q. ap (λ (ps : List Place). get_or ps a Expr) e ∙ many-at n a Name Expr [] q in
    let a = flat-allowed d p h j b c (omega arith) (λ a q. rw (place a (omega arith)) leaf-name) in
    name-at d (j + 1 + c) (rw (place c l) at a)
