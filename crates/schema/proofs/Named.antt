-- What stands below a token of an accepted schema.
use mathlib.Core.Bool.{Bool, true, false}
use mathlib.Core.Path.{◌≡◌, refl, sym, ap, ◌∙◌}
use mathlib.Core.List.{List}
use Prim.Native.Nat.{ℕ, ◌+◌, ◌<◌}
use native.Mathlib.Omega.{arith}
use native.Mathlib.Nat.{add-zero}
use borrow.Author.Tests.{eq-eqb, ne_eqb}
use lib.Dec.{eqb}
use lib.ListN.{length, get_or}
use Rattle.lists.specs.Lists.{both, table, first, any_of}
use Rattle.text.specs.Text.{same_text}
use Rattle.frame.specs.Doc.{Doc, doc_of, kind_of, value_of}
use Rattle.frame.specs.declared.Sheet.{Sheet}
use Rattle.rules.specs.declared.Place.{Place}
use Rattle.rules.specs.declared.Place.TheVariants.{WholeSchema, Expr, Name}
use Rattle.rules.specs.Rules.{rules, opens}
use Rattle.grammar.specs.Machine.{allowed}
use Rattle.grammar.specs.Tree.{Tree, tree_of}
use Rattle.grammar.specs.Inner.{NameAt, Leaf}
use Rattle.grammar.proofs.Flat.{tree-kind, name-at, flat-allowed}
use Rattle.grammar.proofs.Below.{leaf-name}
use Rattle.schema.specs.Declarations.{equal_apart}
use Rattle.schema.specs.Inner.{Declared, Named}

pub named-below : (s : List ℕ) (f : Sheet) (j k : ℕ) → Declared s f → j < f.tokens → kind_of (doc_of s) j ≡ k → Named k
    → NameAt (doc_of s) (j + 1)
named-below s f j k z h e n =
    let d = doc_of s in
    let m : (0 < length (opens (kind_of d j) (value_of d j)))
    × (get_or (opens (kind_of d j) (value_of d j)) 0 Expr ≡ Name) = rw e (n (value_of d j)) in
    let a = flat-allowed d WholeSchema z.read j (omega (arith, z.sheet.tokens)) 0 m.0
    (λ a q. absurd (omega arith)) in
    name-at d (j + 1) (rw (m.1, add-zero) at a)

-- the second child, where the first is a Name
pub second_at : (s : List ℕ) (f : Sheet) (j : ℕ) (p : Place) → Declared s f → j < f.tokens → 1 < length
    (opens (kind_of (doc_of s) j) (value_of (doc_of s) j))
    → get_or (opens (kind_of (doc_of s) j) (value_of (doc_of s) j)) 0 Expr ≡ Name → get_or
    (opens (kind_of (doc_of s) j) (value_of (doc_of s) j)) 1 Expr ≡ p → allowed (doc_of s) p (j + 2) ≡ true
second_at s f j p z h l e g =
    let d = doc_of s in
    let q : j + 1 + 1 ≡ j + 2 = omega arith in
    let leaf : (a : ℕ) → a < 1 → Leaf (get_or (opens (kind_of d j) (value_of d j)) a Expr) =
    λ a b. let o : a ≡ 0 = omega arith in rw (o, e) leaf-name in
    let a = flat-allowed d WholeSchema z.read j (omega (arith, z.sheet.tokens)) 1 l leaf in
    rw (g, q) at a

apart-opens : (k v : ℕ) → k ≡ 106 → (1 < length (opens k v)) × (get_or (opens k v) 0 Expr ≡ Name)
    × (get_or (opens k v) 1 Expr ≡ Name)
unfolding opens rules first any_of table
apart-opens k v e = rw e (omega arith, refl, refl)

-- the other Name of an Apart
pub other-below : (s : List ℕ) (f : Sheet) (j : ℕ) → Declared s f → j < f.tokens → kind_of (doc_of s) j ≡ 106 → NameAt
    (doc_of s) (j + 2)
other-below s f j z h e =
    let o = apart-opens (kind_of (doc_of s) j) (value_of (doc_of s) j) e in
    name-at (doc_of s) (j + 2) (second_at s f j Name z h o.0 o.1 o.2)

-- the kinds that begin with a Name
pub label-named : Named 101
unfolding opens rules first any_of table
label-named v = (omega arith, refl)

pub rel-type-named : Named 102
unfolding opens rules first any_of table
rel-type-named v = (omega arith, refl)

pub parameter-named : Named 103
unfolding opens rules first any_of table
parameter-named v = (omega arith, refl)

pub function-named : Named 104
unfolding opens rules first any_of table
function-named v = (omega arith, refl)

pub procedure-named : Named 105
unfolding opens rules first any_of table
procedure-named v = (omega arith, refl)

pub apart-named : Named 106
unfolding opens rules first any_of table
apart-named v = (omega arith, refl)

pub property-named : Named 110
unfolding opens rules first any_of table
property-named v = (omega arith, refl)

-- the test of a token's kind, and then of x
module _ (d : Doc) (j c k : ℕ) (x : Bool) (ec : c ≡ kind_of d j) where
  pub not-kind : (c ≡ k → ⊥) → false ≡ both (eqb ((tree_of d).kind j) k) x
  not-kind h = rw (tree-kind d j, ← ec, ne_eqb c k h)

  pub of-kind : c ≡ k → {r : Bool} → r ≡ x → r ≡ both (eqb ((tree_of d).kind j) k) x
  of-kind h e = rw (tree-kind d j, ← ec, eq-eqb c k h) e

-- a text compared with another that was read
pub read-text : (n m o : List ℕ) {r : Bool} → m ≡ o → r ≡ same_text n m → r ≡ same_text n o
read-text n m o em er = er ∙ ap (same_text n) em

pub equal-texts : (t : Tree) (j : ℕ) (n m : List ℕ) {r : Bool} → n ≡ t.text (j + 1) → m ≡ t.text (j + 2) → r
    ≡ same_text n m → r ≡ equal_apart t j
unfolding equal_apart
equal-texts t j n m en em er = rw (← en, ← em) er

-- a declaration is no Name
pub not-name : (d : Doc) (i : ℕ) {k : ℕ} → (tree_of d).kind i ≡ k → (k ≡ 50 → ⊥) → kind_of d i ≡ 50 → ⊥
not-name d i e n h = n (sym e ∙ tree-kind d i ∙ h)
