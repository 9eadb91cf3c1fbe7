-- What is fed: one list after the other, item by item, declaration by declaration.
use mathlib.Core.Path.{◌≡◌, refl, sym, ap, ◌∙◌, subst}
use mathlib.Core.Bool.{Bool, true, false}
use mathlib.Core.List.{List, [], ◌∷◌, ◌++◌, map, append-nil}
use Prim.Native.Nat.{ℕ, zero, suc, ◌+◌, ◌*◌, ◌%◌, ◌^◌, ◌≤◌, ◌<◌}
use native.Mathlib.Omega.{arith}
use native.Mathlib.Numerals.{add-one}
use lib.Bits.{bit_xor}
use borrow.Author.Tests.{eq-eqb, ne_eqb}
use lib.Dec.{eqb}
use lib.ListN.{length, get_or, take}
use lib.Seq.{take_all, take-suc}
use Rattle.lists.specs.Lists.{pick, over, each, first, any_of, table}
use Rattle.lists.proofs.Laws.{over_none}
use Rattle.frame.specs.Doc.{Doc, doc_of, kind_of, value_of}
use Rattle.frame.specs.declared.Sheet.{Sheet}
use Rattle.rules.specs.declared.Place.{Place}
use Rattle.rules.specs.declared.Place.TheVariants.{WholeSchema, Expr, Name, PropertyType}
use Rattle.rules.specs.Rules.{takes, rules, opens, many}
use Rattle.grammar.specs.Inner.{Leaf, NameAt}
use Rattle.grammar.specs.Tree.{Tree, tree_of}
use Rattle.rules.proofs.Rows.{taken-by}
use Rattle.grammar.proofs.Below.{leaf-name}
use Rattle.grammar.proofs.Flat.{tree-kind, tree-value, name-at, flat-allowed}
use Rattle.schema.specs.Declarations.{of_kind, decls_of, name_below}
use Rattle.provider.specs.Schema.{Owner, Property, Parameter, items_of, owner_at, property_at, parameter_at, schema_of}
use Rattle.schema.specs.Inner.{Declared, Named, Itemizing}
use Rattle.provider.proofs.Items.{property-item, start-item, end-item}
use Rattle.fnv.specs.Fnv.{fnv_from, fnv1a, basis, prime}
use Rattle.in_order.specs.InOrder.{sorted}
use Rattle.in_order.proofs.Sorting.{sorted-map}
use Rattle.by_name.specs.Inner.{Stored, ordered_of}
use Rattle.by_name.proofs.Lists.{ordered_at}
use Rattle.lists.proofs.Joins.{each_append, each_map}
use Rattle.of_kind.proofs.Ranges.{each_snoc}
use Rattle.feeding.specs.Feed.{label_feed, rel_type_feed, parameter_feed, fed}
use Rattle.feeding.specs.Inner.{item_feed, decl_feed}
use Rattle.text.specs.Text.{bytes}

-- ---- one after the other
pub fed-append : (h : ℕ) (xs ys : List ℕ) → fnv_from h (xs ++ ys) ≡ fnv_from (fnv_from h xs) ys
unfolding fnv_from
fed-append h [] ys = refl
fed-append h (x ∷ xs) ys = fed-append (bit_xor x h * prime % 2 ^ 64) xs ys

pub fed_then : (h : ℕ) (xs ys : List ℕ) {g r : ℕ} → g ≡ fnv_from h xs → r ≡ fnv_from g ys → r ≡ fnv_from h (xs ++ ys)
fed_then h xs ys eg er = er ∙ ap (λ (k : ℕ). fnv_from k ys) eg ∙ sym (fed-append h xs ys)

pub fed-none : (h : ℕ) → h ≡ fnv_from h []
unfolding fnv_from
fed-none h = refl

-- a tag and a name that was read
pub fed-named : (h : ℕ) (tag a : List ℕ) {g r : ℕ} {b : List ℕ} → b ≡ a → g ≡ fnv_from h tag → r ≡ fnv_from g b → r
    ≡ fnv_from h (tag ++ a)
fed-named h tag a eb eg er = fed_then h tag a eg (er ∙ ap (fnv_from _) eb)

-- ---- the flag
module _ (h : ℕ) (flagged : Bool) (value : ℕ) where
  pub flag-not : flagged ≡ false → h ≡ fnv_from h (pick flagged (pick (eqb value 1) (bytes "!") (bytes "?")) [])
  flag-not e = rw e (fed-none h)

  pub flag-set : {r : ℕ} → flagged ≡ true → value ≡ 1 → r ≡ fnv_from h (33 ∷ []) → r ≡ fnv_from h
      (pick flagged (pick (eqb value 1) (bytes "!") (bytes "?")) [])
  unfolding bytes
  flag-set e g er = rw (e, eq-eqb value 1 g) er

  pub flag-unset : {r : ℕ} → flagged ≡ true → (value ≡ 1 → ⊥) → r ≡ fnv_from h (63 ∷ []) → r ≡ fnv_from h
      (pick flagged (pick (eqb value 1) (bytes "!") (bytes "?")) [])
  unfolding bytes
  flag-unset e g er = rw (e, ne_eqb value 1 g) er

-- ---- an item
not-name : (k : ℕ) → Named k → k ≡ 50 → ⊥
unfolding opens rules first any_of table
not-name k n e = let m = (subst Named e n 0).0 in omega arith

module _ (d : Doc) (k j c h : ℕ) (tag : List ℕ) (flagged : Bool) (ec : c ≡ kind_of d j) where
  pub item-skipped : (c ≡ k → ⊥) → h ≡ fnv_from h (each (item_feed (tree_of d) tag flagged) (of_kind (tree_of d) k j))
  unfolding each
  item-skipped e = rw (tree-kind d j, ← ec, ne_eqb c k e) (fed-none h)

  pub item-fed : Named k → c ≡ k → {g r v : ℕ} → v ≡ value_of d j → g ≡ fnv_from h (tag ++ name_below (tree_of d) j)
      → r ≡ fnv_from g (pick flagged (pick (eqb v 1) (bytes "!") (bytes "?")) []) → r ≡ fnv_from h
      (each (item_feed (tree_of d) tag flagged) (of_kind (tree_of d) k j))
  unfolding each
  item-fed n e {g} {r} {v} ev eg er =
      let u : (tree_of d).value j ≡ v = tree-value d j (λ q. not-name k n (sym e ∙ ec ∙ q)) ∙ sym ev in
      let x : r ≡ fnv_from h (item_feed (tree_of d) tag flagged j) = rw u
      (fed_then h (tag ++ name_below (tree_of d) j) _ eg er) in
      rw (tree-kind d j, ← ec, eq-eqb c k e, append-nil) x

-- ---- the items of a range
module _ (t : Tree) (k : ℕ) (g : ℕ → List ℕ) (h a b j u : ℕ)
    (inv : u ≡ fnv_from h (each g (over (of_kind t k) a j))) where
  pub items-turn : {r : ℕ} → a ≤ j → r ≡ fnv_from u (each g (of_kind t k j)) → r ≡ fnv_from h
      (each g (over (of_kind t k) a (j + 1)))
  items-turn {r} l e = fed_then h (each g (over (of_kind t k) a j)) (each g (of_kind t k j)) inv e ∙ ap (fnv_from h)
      (sym (each_snoc t k g a j l))

  pub items-end : b ≤ j → j ≤ b → u ≡ fnv_from h (each g (over (of_kind t k) a b))
  items-end l m = let e : j ≡ b = omega arith in inv ∙ ap (λ (i : ℕ). fnv_from h (each g (over (of_kind t k) a i))) e

pub items-none : (t : Tree) (k : ℕ) (g : ℕ → List ℕ) (h a b : ℕ) → b ≤ a → h ≡ fnv_from h
    (each g (over (of_kind t k) a b))
unfolding each
items-none t k g h a b l = rw (over_none (of_kind t k) a b l) (fed-none h)

-- ---- what is made of others
each-as : {A : Type 0} (f g : A → List ℕ) (xs : List A) → ((x : A) → f x ≡ g x) → each f xs ≡ each g xs
unfolding each
each-as f g [] e = refl
each-as f g (x ∷ xs) e = rw (e x, each-as f g xs e)

-- ---- a label
module _ (t : Tree) (i b h : ℕ) (items-are : (k : ℕ) → Itemizing k → over (of_kind t k) (i + 1) b ≡ items_of t i k) where
  label-feed : label_feed (owner_at t i) ≡ ((76 ∷ 58 ∷ []) ++ name_below t i) ++ each (item_feed t (112 ∷ 58 ∷ []) true)
      (over (of_kind t 110) (i + 1) b)
  unfolding label_feed bytes
  label-feed =
      ap (λ (r : List ℕ). ((76 ∷ 58 ∷ []) ++ name_below t i) ++ r)
      (each_map (λ (p : Property). ((112 ∷ 58 ∷ []) ++ p.name) ++ pick p.required (bytes "!") (bytes "?"))
      (property_at t) (items_of t i 110) ∙ ap (each (item_feed t (112 ∷ 58 ∷ []) true)) (sym
      (items-are 110 property-item)))

  pub label-fed : {g r : ℕ} → g ≡ fnv_from h ((76 ∷ 58 ∷ []) ++ name_below t i) → r ≡ fnv_from g
      (each (item_feed t (112 ∷ 58 ∷ []) true) (over (of_kind t 110) (i + 1) b))
      → r ≡ fnv_from h (label_feed (owner_at t i))
  label-fed eg er = fed_then h ((76 ∷ 58 ∷ []) ++ name_below t i) _ eg er ∙ ap (fnv_from h) (sym label-feed)

  -- ---- a relationship type
  names-feed : (tag : List ℕ) (k : ℕ) → Itemizing k → each (item_feed t tag false) (over (of_kind t k) (i + 1) b) ≡ each
      (λ n. tag ++ n) (map (name_below t) (items_of t i k))
  names-feed tag k y =
      each-as (item_feed t tag false) (λ j. tag ++ name_below t j) (over (of_kind t k) (i + 1) b)
      (λ j. append-nil (tag ++ name_below t j))
      ∙ ap (each (λ j. tag ++ name_below t j)) (items-are k y) ∙ sym
      (each_map (λ n. tag ++ n) (name_below t) (items_of t i k))

  properties-feed : each (item_feed t (112 ∷ 58 ∷ []) false) (over (of_kind t 110) (i + 1) b) ≡ each
      (λ (p : Property). (112 ∷ 58 ∷ []) ++ p.name) (map (property_at t) (items_of t i 110))
  properties-feed =
      each-as (item_feed t (112 ∷ 58 ∷ []) false) (λ j. (112 ∷ 58 ∷ []) ++ name_below t j)
      (over (of_kind t 110) (i + 1) b) (λ j. append-nil ((112 ∷ 58 ∷ []) ++ name_below t j))
      ∙ ap (each (λ j. (112 ∷ 58 ∷ []) ++ name_below t j)) (items-are 110 property-item) ∙ sym
      (each_map (λ (p : Property). (112 ∷ 58 ∷ []) ++ p.name) (property_at t) (items_of t i 110))

  rel-type-feed : rel_type_feed (owner_at t i)
      ≡ ((82 ∷ 58 ∷ []) ++ name_below t i) ++ each (item_feed t (115 ∷ 58 ∷ []) false) (over (of_kind t 112) (i + 1) b)
      ++ each (item_feed t (101 ∷ 58 ∷ []) false) (over (of_kind t 113) (i + 1) b)
      ++ each (item_feed t (112 ∷ 58 ∷ []) false) (over (of_kind t 110) (i + 1) b)
  unfolding rel_type_feed bytes
  rel-type-feed = sym (rw (
    names-feed (115 ∷ 58 ∷ []) 112 start-item,
    names-feed
        (101 ∷ 58 ∷ []) 113 end-item,
    properties-feed,
  ))

  pub rel-type-fed : {g u v r : ℕ} → g ≡ fnv_from h ((82 ∷ 58 ∷ []) ++ name_below t i)
      → u ≡ fnv_from g (each (item_feed t (115 ∷ 58 ∷ []) false) (over (of_kind t 112) (i + 1) b))
      → v ≡ fnv_from u (each (item_feed t (101 ∷ 58 ∷ []) false) (over (of_kind t 113) (i + 1) b))
      → r ≡ fnv_from v (each (item_feed t (112 ∷ 58 ∷ []) false) (over (of_kind t 110) (i + 1) b)) → r ≡ fnv_from h
      (rel_type_feed (owner_at t i))
  rel-type-fed eg eu ev er = fed_then h _ _ (fed_then h _ _ (fed_then h _ _ eg eu) ev) er ∙ ap (fnv_from h)
      (sym rel-type-feed)

-- ---- a parameter
leaf_type : Leaf PropertyType
unfolding takes opens rules first any_of table
leaf_type k v h =
    taken-by (λ k. opens k v ≡ []) (120 ∷ 121 ∷ 122 ∷ 123 ∷ 124 ∷ 125 ∷ 126 ∷ 127 ∷ 128 ∷ []) k h
    (refl, (refl, (refl, (refl, (refl, (refl, (refl, (refl, (refl, tt)))))))))

parameter-opens : (k v : ℕ) → k ≡ 103 → v ≡ 1 → opens k v ≡ Name ∷ PropertyType ∷ Name ∷ []
unfolding opens rules first any_of table many
parameter-opens k v e g = rw (e, g)

pub default-named : (s : List ℕ) (f : Sheet) (i v : ℕ) → Declared s f → i < f.tokens → kind_of (doc_of s) i ≡ 103 → v
    ≡ value_of (doc_of s) i → v ≡ 1 → NameAt (doc_of s) (i + 3)
default-named s f i v z h e ev g =
    let d = doc_of s in
    let o : opens (kind_of d i) (value_of d i) ≡ Name ∷ PropertyType ∷ Name ∷ [] = parameter-opens (kind_of d i)
    (value_of d i) e (sym ev ∙ g) in
    let place : (a : ℕ) → get_or (opens (kind_of d i) (value_of d i)) a Expr ≡ get_or (Name ∷ PropertyType ∷ Name ∷ []) a
    Expr = λ a. ap (λ (ps : List Place). get_or ps a Expr) o in
    let first_leaf : (a : ℕ) → a < 2 → Leaf (get_or (Name ∷ PropertyType ∷ Name ∷ []) a Expr) = leaves in
    let leaf : (a : ℕ) → a < 2 → Leaf (get_or (opens (kind_of d i) (value_of d i)) a Expr) = λ a q. subst Leaf
    (sym (place a)) (first_leaf a q) in
    let a = flat-allowed d WholeSchema z.read i (omega (arith, z.sheet.tokens)) 2 (omega (arith, ap length o))
    leaf in
    let q : i + 1 + 2 ≡ i + 3 = omega arith in
    name-at d (i + 3) (rw (place 2, q) at a)
  where
    leaves : (a : ℕ) → a < 2 → Leaf (get_or (Name ∷ PropertyType ∷ Name ∷ []) a Expr)
    leaves zero q = leaf-name
    leaves (suc zero) q = leaf_type
    leaves (suc (suc a)) q = absurd (omega arith)

module _ (d : Doc) (i v h : ℕ) (e : kind_of d i ≡ 103) (ev : v ≡ value_of d i) {g : ℕ}
    (eg : g ≡ fnv_from h ((80 ∷ 58 ∷ []) ++ name_below (tree_of d) i)) where
  value-is : (tree_of d).value i ≡ v
  value-is = tree-value d i (λ q. let z = sym e ∙ q in omega arith) ∙ sym ev

  pub no_default : (v ≡ 1 → ⊥) → g ≡ fnv_from h (parameter_feed (parameter_at (tree_of d) i))
  unfolding parameter_feed bytes
  no_default n = rw (value-is, ne_eqb v 1 n) (eg ∙ ap (fnv_from h)
      (sym (append-nil ((80 ∷ 58 ∷ []) ++ name_below (tree_of d) i))))

  pub with-default : v ≡ 1 → {u r : ℕ} {m : List ℕ} → m ≡ (tree_of d).text (i + 3) → u ≡ fnv_from g (61 ∷ []) → r
      ≡ fnv_from u m → r ≡ fnv_from h (parameter_feed (parameter_at (tree_of d) i))
  unfolding parameter_feed bytes
  with-default n {u} {r} em eu er =
      let x : r ≡ fnv_from g ((61 ∷ []) ++ (tree_of d).text (i + 3)) = fed_then g (61 ∷ []) _ eu (er ∙ ap (fnv_from u) em)
      in
      rw (value-is, eq-eqb v 1 n) (fed_then h ((80 ∷ 58 ∷ []) ++ name_below (tree_of d) i) _ eg x)

-- ---- a declaration, by its kind
module _ (t : Tree) (k i h : ℕ) {r : ℕ} where
  pub decl-label : k ≡ 101 → r ≡ fnv_from h (label_feed (owner_at t i)) → r ≡ fnv_from h (decl_feed t k i)
  unfolding decl_feed
  decl-label e er = rw (eq-eqb k 101 e) er

  pub decl-rel-type : (k ≡ 101 → ⊥) → k ≡ 102 → r ≡ fnv_from h (rel_type_feed (owner_at t i)) → r ≡ fnv_from h
      (decl_feed t k i)
  unfolding decl_feed
  decl-rel-type n e er = rw (ne_eqb k 101 n, eq-eqb k 102 e) er

  pub decl-parameter : (k ≡ 101 → ⊥) → (k ≡ 102 → ⊥) → r ≡ fnv_from h (parameter_feed (parameter_at t i)) → r ≡ fnv_from h
      (decl_feed t k i)
  unfolding decl_feed
  decl-parameter n m er = rw (ne_eqb k 101 n, ne_eqb k 102 m) er

pub kept-third : (k : ℕ) → Stored k → (k ≡ 101 → ⊥) → (k ≡ 102 → ⊥) → k ≡ 103
unfolding table
kept-third k z =
    taken-by (λ (j : ℕ). (j ≡ 101 → ⊥) → (j ≡ 102 → ⊥) → j ≡ 103) (101 ∷ 102 ∷ 103 ∷ []) k z
    (λ n m. absurd (n refl), (λ n m. absurd (m refl), (λ n m. refl, tt)))

-- ---- declarations in turn: the first n of them were fed
abbrev pub FedTo : Tree → ℕ → List ℕ → ℕ → ℕ → ℕ → Type 0
FedTo t k l h n u = u ≡ fnv_from h (each (decl_feed t k) (take n l))

pub fed-start : (t : Tree) (k : ℕ) (l : List ℕ) (h : ℕ) → FedTo t k l h 0 h
unfolding each
fed-start t k l h = fed-none h

module _ (t : Tree) (k : ℕ) (l : List ℕ) (h n u : ℕ) (w : FedTo t k l h n u) where
  pub fed-turn : {r : ℕ} → n < length l → r ≡ fnv_from u (decl_feed t k (get_or l n 0)) → FedTo t k l h (n + 1) r
  unfolding each
  fed-turn g e =
      let m : each (decl_feed t k) (take (n + 1) l) ≡ each (decl_feed t k) (take n l) ++ decl_feed t k (get_or l n 0) =
      ap (λ (a : ℕ). each (decl_feed t k) (take a l)) (add-one n) ∙ ap (each (decl_feed t k)) (take-suc l n 0 g)
      ∙ each_append (decl_feed t k) (take n l) (get_or l n 0 ∷ [])
      ∙ ap (λ (x : List ℕ). each (decl_feed t k) (take n l) ++ x) (append-nil (decl_feed t k (get_or l n 0))) in
      fed_then h (each (decl_feed t k) (take n l)) (decl_feed t k (get_or l n 0)) w e ∙ ap (fnv_from h) (sym m)

  pub fed-end : length l ≤ n → u ≡ fnv_from h (each (decl_feed t k) l)
  fed-end g = w ∙ ap (λ (ys : List ℕ). fnv_from h (each (decl_feed t k) ys)) (take_all n l g)

-- ---- all of a kind, listed
pub kind-fed : (t : Tree) (k h : ℕ) {r : ℕ} {l : List ℕ} → l ≡ ordered_of t k → r ≡ fnv_from h (each (decl_feed t k) l)
    → r ≡ fnv_from h (each (decl_feed t k) (ordered_of t k))
kind-fed t k h e er = er ∙ ap (λ (ys : List ℕ). fnv_from h (each (decl_feed t k) ys)) e

-- the declaration that is fed next
pub next-fed : (s : List ℕ) (f : Sheet) (k : ℕ) → Declared s f → Stored k → (l : List ℕ) → l
    ≡ ordered_of (tree_of (doc_of s)) k → (n : ℕ) → n < length l
    → (get_or l n 0 < f.tokens) × (kind_of (doc_of s) (get_or l n 0) ≡ k)
next-fed s f k z kept l e n h = rw e (ordered_at s f k z kept n (rw e at h))

-- ---- and all of them
module _ (t : Tree) where
  labels-fed : each (decl_feed t 101) (ordered_of t 101) ≡ each label_feed
      (sorted (λ (o : Owner). o.name) (map (owner_at t) (decls_of t 101)))
  unfolding decl_feed
  labels-fed = sym (ap (each label_feed) (sorted-map (λ (o : Owner). o.name) (owner_at t) (decls_of t 101)) ∙ each_map
      label_feed (owner_at t) (ordered_of t 101))

  rel-types-fed : each (decl_feed t 102) (ordered_of t 102) ≡ each rel_type_feed
      (sorted (λ (o : Owner). o.name) (map (owner_at t) (decls_of t 102)))
  unfolding decl_feed
  rel-types-fed = sym (ap (each rel_type_feed) (sorted-map (λ (o : Owner). o.name) (owner_at t) (decls_of t 102))
      ∙ each_map rel_type_feed (owner_at t) (ordered_of t 102))

  parameters-fed : each (decl_feed t 103) (ordered_of t 103) ≡ each parameter_feed
      (sorted (λ (p : Parameter). p.name) (map (parameter_at t) (decls_of t 103)))
  unfolding decl_feed
  parameters-fed = sym (ap (each parameter_feed) (sorted-map (λ (p : Parameter). p.name) (parameter_at t)
      (decls_of t 103)) ∙ each_map parameter_feed (parameter_at t) (ordered_of t 103))

  pub all-fed : {a b c d : ℕ} → a ≡ basis → b ≡ fnv_from a (each (decl_feed t 101) (ordered_of t 101)) → c ≡ fnv_from b
      (each (decl_feed t 102) (ordered_of t 102))
      → d ≡ fnv_from c (each (decl_feed t 103) (ordered_of t 103)) → d ≡ fnv1a (fed (schema_of t))
  unfolding fed schema_of
  all-fed ea eb ec ed =
      fed_then basis _ _ (fed_then basis _ _ (eb ∙ ap (λ (x : ℕ). fnv_from x (each (decl_feed t 101) (ordered_of t 101)))
      ea) ec) ed
      ∙ rw (labels-fed, rel-types-fed, parameters-fed)
