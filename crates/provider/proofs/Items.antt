-- The items of a Label or a RelType of an accepted schema, which are its children, are all tokens of their kinds up to
-- the next declaration. So the code, which goes over those tokens, finds what the definitions say.
use mathlib.Core.Bool.{Bool, true, false}
use mathlib.Core.Path.{◌≡◌, refl, sym, ap, ◌∙◌, subst}
use mathlib.Core.List.{List, [], ◌∷◌, ◌++◌}
use mathlib.Core.Logic.{⊎_elim}
use Prim.Native.Nat.{ℕ, zero, suc, ◌+◌, ◌-◌, ◌≤◌, ◌<◌}
use native.Mathlib.Nat.{zero-add}
use native.Mathlib.Numerals.{add-one}
use native.Mathlib.Omega.{arith}
use borrow.Author.Tests.{leb-true, le-leb}
use lib.Dec.{leb}
use lib.ListN.{length, get_or}
use Rattle.lists.specs.Lists.{both, table, first, any_of, each, over}
use Rattle.lists.proofs.Ranges.{through-bounds, through-in}
use Rattle.lists.proofs.Tests.{below, both_true, true-both, pick_true, pick-false, true-or-false}
use Rattle.frame.specs.Doc.{Doc, doc_of, kind_of, value_of}
use Rattle.frame.specs.declared.Sheet.{Sheet}
use Rattle.rules.specs.declared.Place.{Place}
use Rattle.rules.specs.declared.Place.TheVariants.{Expr, Name, WholeSchema, LabelItem, RelTypeItem}
use Rattle.rules.specs.Rules.{rules, opens, arity}
use Rattle.rules.proofs.Rows.{taken-by, many-length}
use Rattle.grammar.specs.Machine.{allowed, grammar_fault}
use Rattle.grammar.specs.Tree.{Tree, tree_of, past, end, child}
use Rattle.grammar.proofs.Places.{past-none, past-ge, past-le, past-mono, past-suc, end-node, end-gt}
use Rattle.grammar.proofs.Formed.{arity-at, formed, schema-rooted}
use Rattle.grammar.proofs.Flat.{tree-kind, name-at, allowed-inside}
use Rattle.schema.specs.Declarations.{of_kind, decls_of}
use Rattle.schema.specs.Inner.{Declared, Declaring, Owning, Itemizing, Named, searched, first_named}
use Rattle.schema.proofs.Searches.{hit, there-is}
use Rattle.schema.proofs.Named.{label-named, rel-type-named}
use Rattle.schema.proofs.Standing.{size_of, decl-child, child-decl, owning-declares, decl-outside, item-outside}
use Rattle.schema.proofs.Scans.{over-roots, quiet-kind, searched-decls}
use Rattle.provider.specs.Schema.{items_of}
use Rattle.provider.specs.Scanned.{next_decl, decl_end, tokens_after}
use Rattle.std.specs.Prelude.{Option, Some, None}

-- ---- a Label or a RelType: its Name, and as many items as its value says
pub owning-named : (k : ℕ) → Owning k → Named k
unfolding table
owning-named k h = taken-by Named (101 ∷ 102 ∷ []) k h (label-named, (rel-type-named, tt))

owning-counts : (k v : ℕ) → Owning k → arity k v ≡ suc v
unfolding arity opens rules first any_of table
owning-counts k v h = taken-by (λ (k : ℕ). arity k v ≡ suc v) (101 ∷ 102 ∷ []) k h
    (omega (arith, many-length v LabelItem []), (omega (arith, many-length v RelTypeItem []), tt))

-- ---- the next declaration
abbrev is_decl : Tree → ℕ → Bool
is_decl t j = both (leb 101 (t.kind j)) (leb (t.kind j) 106)

next-is : (t : Tree) (left a e : ℕ) → a ≤ e → e ≤ a + left → ((j : ℕ) → a ≤ j → j < e → is_decl t j ≡ false)
    → (e < a + left → is_decl t e ≡ true) → next_decl t left a ≡ e
unfolding next_decl
next-is t zero a e l g n y = omega arith
next-is t (suc left) a e l g n y = ⊎_elim
    (λ b. pick-false a (next_decl t left (suc a)) (n a (omega arith) b)
    ∙ next-is t left (suc a) e b (omega arith) (λ j p q. n j (omega arith) q) (λ p. y (omega arith)))
    (λ b. let z : a ≡ e = omega arith in
    pick_true a (next_decl t left (suc a)) (ap (is_decl t) z ∙ y (omega arith)) ∙ z)
    (below a e)

decl-test : (t : Tree) (j k : ℕ) → t.kind j ≡ k → Declaring k → is_decl t j ≡ true
decl-test t j k e h =
    let b = through-bounds 101 106 k h in
    rw e (true-both (le-leb 101 k b.0) (le-leb k 106 b.1))

test-decl : (t : Tree) (j k : ℕ) → t.kind j ≡ k → is_decl t j ≡ true → Declaring k
test-decl t j k e h =
    let b = both_true (leb 101 (t.kind j)) (leb (t.kind j) 106) h in
    through-in 101 106 k (omega (arith, e, leb-true 101 (t.kind j) b.0)) (omega (
      arith,
      e,
      leb-true (t.kind j) 106
          b.1,
    ))

module _ (d : Doc) (h : grammar_fault WholeSchema d ≡ None) (i : ℕ) (b : i < length d.tokens) where
  -- what belongs to a declaration ends where the next one stands
  module _ (z : Declaring (kind_of d i)) where
    pub after_first : 0 < i
    after_first = let c = decl-child d h i b z in omega (arith, past-ge (tree_of d) c.0 1, c.2)

    inside : (j : ℕ) → j < end (tree_of d) i → j < length d.tokens
    inside j g = omega (arith, size_of d, past-le (tree_of d) 1 i (omega (arith, size_of d)))

    next-stands : end (tree_of d) i < (tree_of d).size → is_decl (tree_of d) (end (tree_of d) i) ≡ true
    next-stands g =
        let t = tree_of d in
        let c = decl-child d h i b z in
        let e : past t (suc c.0) 1 ≡ end t i = past-suc t c.0 1 ∙ ap (end t) c.2 in
        let r = schema-rooted d (omega arith) h in
        ⊎_elim
        (λ o. let y = child-decl d h (suc c.0) (omega arith) o in
        ap (is_decl t) (sym e) ∙ decl-test t (past t (suc c.0) 1) (kind_of d (past t (suc c.0) 1)) (tree-kind d
        (past t (suc c.0) 1)) y.1)
        (λ o. let w : t.value 0 ≡ suc c.0 = omega (arith, c.1) in
        let y : past t (t.value 0) 1 ≡ past t (suc c.0) 1 = ap (λ (n : ℕ). past t n 1) w in
        absurd (omega (arith, y, r.covers, e)))
        (below (suc c.0) (t.value 0))

    pub ends-before : decl_end (tree_of d) i ≡ end (tree_of d) i
    ends-before =
        let t = tree_of d in
        let n = size_of d in
        let g : i < end t i = end-gt t i (omega arith) in
        let l : end t i ≤ t.size = past-le t 1 i (omega arith) in
        next-is t (t.size - suc i) (suc i) (end t i) g (omega arith)
        (λ j p q. ⊎_elim
        (λ y. absurd (decl-outside d h i j after_first p q (inside j q) (test-decl t j (kind_of d j) (tree-kind d j) y)))
        (λ y. y)
        (true-or-false (is_decl t j)))
        (λ p. next-stands (omega arith))

  -- the items of a Label or a RelType are all tokens of their kind up to the next declaration: for every document whose
  -- tokens read as a schema's, and every kind of items
  module _ (o : Owning (kind_of d i)) (k : ℕ) (y : Itemizing k) where
    counts : arity ((tree_of d).kind i) ((tree_of d).value i) ≡ suc ((tree_of d).value i)
    counts = owning-counts ((tree_of d).kind i) ((tree_of d).value i) (subst Owning (sym (tree-kind d i)) o)

    opened : length (opens (kind_of d i) (value_of d i)) ≡ suc ((tree_of d).value i)
    opened = sym (arity-at d i) ∙ counts

    ends : past (tree_of d) (0 + suc ((tree_of d).value i)) (suc i) ≡ end (tree_of d) i
    ends = ap (λ (n : ℕ). past (tree_of d) n (suc i)) (zero-add (suc ((tree_of d).value i)) ∙ sym counts)
        ∙ sym (end-node (tree_of d) i (omega (arith, size_of d)))

    item-tree : (e : ℕ) → e < suc ((tree_of d).value i) → (past (tree_of d) e (suc i) < (tree_of d).size)
        × ((j : ℕ) → past (tree_of d) e (suc i) < j → j < end (tree_of d) (past (tree_of d) e (suc i))
        → of_kind (tree_of d) k j ≡ [])
    item-tree e l =
        let t = tree_of d in
        let z = owning-declares (kind_of d i) o in
        let s = allowed-inside d (get_or (opens (kind_of d i) (value_of d i)) e Expr) (child t i e)
        (formed d WholeSchema h i b e (omega (arith, opened))) in
        let m : end t (past t e (suc i)) ≤ end t i = subst (λ (n : ℕ). n ≤ end t i) (past-suc t e (suc i))
        (subst (λ (n : ℕ). past t (suc e) (suc i) ≤ n) ends (past-mono t (suc e) (0 + suc (t.value i)) (suc i)
        (omega arith))) in (
          omega (arith, size_of d, s),
          λ j g q. quiet-kind t k j (λ w. item-outside d h i (past t e (suc i)) j (after_first z) (past-ge t e
              (suc i)) m g
              q (inside z j (omega arith)) (subst Itemizing (sym w ∙ tree-kind d j) y)),
        )

    name-first : of_kind (tree_of d) k (past (tree_of d) 0 (suc i)) ≡ []
    name-first =
        let t = tree_of d in
        let n = owning-named (kind_of d i) o (value_of d i) in
        let a : allowed d Name (child t i 0) ≡ true = subst (λ (q : Place). allowed d q (child t i 0) ≡ true) n.1
        (formed d WholeSchema h i b 0 n.0) in
        let f = (name-at d (child t i 0) a).kind in
        let x = through-bounds 110 113 k y in
        quiet-kind t k (child t i 0) (λ w. omega (arith, x.0, sym w ∙ tree-kind d (child t i 0) ∙ f))

    pub items-scanned : items_of (tree_of d) i k ≡ tokens_after (tree_of d) i k
    unfolding items_of tokens_after each table
    items-scanned =
        let t = tree_of d in
        let r = over-roots (of_kind t k) t (suc (t.value i)) 0 (suc i) (λ e p q. item-tree e (omega arith)) in
        sym (ap (over (of_kind t k) (suc i)) (ends-before (owning-declares (kind_of d i) o) ∙ sym ends)
        ∙ ap (λ (n : ℕ). over (of_kind t k) n (past t (0 + suc (t.value i)) (suc i))) (sym (past-none t (suc i)))
        ∙ r ∙ ap (λ (xs : List ℕ). xs ++ each (of_kind t k) (table (λ e. past t e (suc i)) 1 (t.value i))) name-first)

-- the same of a sheet that was read, where the end of a declaration was found
pub items-between : {s : List ℕ} {f : Sheet} → Declared s f → (i e k m : ℕ) → i < f.tokens → kind_of (doc_of s) i ≡ k
    → Owning k → Itemizing m → e ≡ decl_end (tree_of (doc_of s)) i
    → over (of_kind (tree_of (doc_of s)) m) (i + 1) e ≡ items_of (tree_of (doc_of s)) i m
unfolding tokens_after
items-between {s} {f} z i e k m b ek o y g =
    rw (g, add-one i) (sym (items-scanned (doc_of s) z.read i (omega (arith, z.sheet.tokens))
    (subst Owning (sym ek) o) m y))

-- the kinds of declarations that have items, and the kinds of items
pub label-owns : Owning 101
unfolding any_of table
label-owns = refl

pub rel-type-owns : Owning 102
unfolding any_of table
rel-type-owns = refl

pub property-item : Itemizing 110
unfolding any_of table
property-item = refl

pub tuple-item : Itemizing 111
unfolding any_of table
tuple-item = refl

pub start-item : Itemizing 112
unfolding any_of table
start-item = refl

pub end-item : Itemizing 113
unfolding any_of table
end-item = refl

-- a search among all tokens up to m is one among the declarations of kind k
abbrev pub Searching : Tree → ℕ → ℕ → Type 0
Searching t k m = (p : ℕ → Bool) → searched p t k 0 m ≡ first p (decls_of t k)

module _ {s : List ℕ} {f : Sheet} (z : Declared s f) (k : ℕ) (o : Owning k) where
  pub owners-searched : Searching (tree_of (doc_of s)) k f.tokens
  owners-searched p = searched-decls z p k (owning-declares k o)

  -- the items of the one that was found
  pub found-items : (m : ℕ) → Itemizing m → (n : List ℕ) {q : Option ℕ} {i e : ℕ}
      → q ≡ first_named (tree_of (doc_of s)) k n 0 f.tokens → q ≡ Some i → e ≡ decl_end (tree_of (doc_of s)) i
      → over (of_kind (tree_of (doc_of s)) m) (i + 1) e ≡ items_of (tree_of (doc_of s)) i m
  found-items m y n {q} {i} {e} g t w =
      let x = hit _ _ _ _ _ _ (there-is (first_named (tree_of (doc_of s)) k n 0 f.tokens) i g t) in
      items-between z i e k m x.high (sym (tree-kind (doc_of s) i) ∙ x.kind) o y w
