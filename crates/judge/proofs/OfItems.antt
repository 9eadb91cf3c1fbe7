-- What stands below the tokens that are judged, and what the code's answers say of their items.
use mathlib.Core.Bool.{Bool, true, false, not}
use mathlib.Core.Logic.{⊎_elim}
use mathlib.Core.Path.{◌≡◌, refl, sym, ap, ◌∙◌, subst}
use mathlib.Core.List.{List, [], ◌∷◌, ◌++◌}
use Prim.Native.Nat.{ℕ, ◌+◌, ◌/◌, ◌%◌, ◌<◌, suc}
use native.Mathlib.Omega.{arith}
use borrow.Author.Tests.{lt-ltb, le-ltb, lt-leb, le-leb, eq-eqb, ne_eqb}
use lib.ListN.{length, get_or, get_or-eq_default}
use lib.Dec.{eqb, leb, ltb}
use Rattle.lists.specs.Lists.{pick, table, first, any_of, is_one, over, both, either}
use Rattle.lists.proofs.Tests.{below}
use Rattle.frame.specs.Doc.{Doc, Token, doc_of, kind_of, value_of}
use Rattle.frame.specs.Inner.{Sound}
use Rattle.frame.specs.declared.Sheet.{Sheet}
use Rattle.frame.specs.declared.Sizes.{Sizes}
use Rattle.rules.specs.declared.Place.TheVariants.{WholeStatement, Name, SpanStart, SpanEnd, Expr}
use Rattle.rules.specs.Rules.{many, rules, opens}
use Rattle.grammar.specs.Machine.{allowed}
use Rattle.grammar.specs.Inner.{Leaf, NameAt}
use Rattle.grammar.specs.Tree.{tree_of, Tree, texts}
use Rattle.rules.proofs.Rows.{many-length}
use Rattle.rules.proofs.Children.{many-at, element-opens, start-kind, end-kind}
use Rattle.grammar.proofs.Flat.{tree-value, name-at, flat-allowed, allowed-taken, tree-kind}
use Rattle.grammar.proofs.Below.{leaf-name, leaf-span-start, leaf-span-end, element-leaf}
use Rattle.provider.specs.declared.Callee.{Callee}
use Rattle.provider.specs.Schema.{Signature, function_of, procedure_of, Owner, is_declared, schema_of, Schema, apart_among}
use Rattle.provider.specs.Inner.{callee, callee_of, owners_of, Labelled}
use Rattle.marks.specs.Marks.{NamesAt}
use Rattle.judge.specs.Window.{in_clause}
use Rattle.breach.specs.Breach.{Item, item, item_at, is_element, spanless, names_of, owners, holder}
use Rattle.breach.specs.Listing.{when, call_item, name_item, node_item, set_item, early}
use Rattle.properties.specs.Entering.{owner_kind, Element}
use Rattle.properties.proofs.Found.{owners_of_lem}
use Rattle.judge.specs.Judging.{Lent}
use Rattle.breach.proofs.Exact.{element-cases}
use Rattle.lists.proofs.Laws.{over-one, over-join}
use Rattle.std.specs.Prelude.{Option, Some, None}

-- ---- a start or an end of the document
pub number-inside : (s : List ℕ) (f : Sheet) (j : ℕ) → Sound s f → kind_of (doc_of s) j ≡ 51 → j < f.tokens
number-inside s f j z e = ⊎_elim
    (λ h. omega (arith, z.tokens))
    (λ h. let o : kind_of (doc_of s) j ≡ 0 = ap (λ (t : Token). t.kind)
    (get_or-eq_default (doc_of s).tokens (record { kind = 0; value = 0 }) h) in absurd (omega (arith, o, e)))
    (below j (length (doc_of s).tokens))

-- the value of a token that is no Name
pub value_read : (d : Doc) (j k v : ℕ) → kind_of d j ≡ k → (k ≡ 50 → ⊥) → v ≡ value_of d j → v ≡ (tree_of d).value j
value_read d j k v e n ev = ev ∙ sym (tree-value d j (λ h. n (sym e ∙ h)))

-- an item with a token's span, in any clause
pub spanned-item : (d : Doc) (i code a b stage ordinal n : ℕ) → kind_of d (i + 1) ≡ 51 → kind_of d (i + 2) ≡ 51 → a
    ≡ value_of d (i + 1) → b ≡ value_of d (i + 2)
    → item code a b i stage ordinal n ≡ in_clause n (item_at (tree_of d) i code stage ordinal)
spanned-item d i code a b stage ordinal n p q ea eb =
    let x : a ≡ (tree_of d).value (i + 1) = value_read d (i + 1) 51 a p (λ h. omega arith) ea in
    let y : b ≡ (tree_of d).value (i + 2) = value_read d (i + 2) 51 b q (λ h. omega arith) eb in
    rw (x, y)

-- ---- the number of arguments
pub bad-variadic : (b : Bool) (p n : ℕ) → b ≡ true → ltb n p ≡ pick b (not (leb p n)) (not (eqb n p))
bad-variadic b p n e = ⊎_elim (λ h. rw (e, lt-ltb n p h, lt-leb p n h)) (λ h. rw (e, le-ltb n p h, le-leb p n h))
    (below n p)

pub bad-exact : (b : Bool) (p n : ℕ) → b ≡ false → not (eqb n p) ≡ pick b (not (leb p n)) (not (eqb n p))
bad-exact b p n e = rw e

-- ---- a Call
unknown-is : {q : Option Callee} (x : Option Signature) (v : ℕ) (u w : Item) → q ≡ callee x → q ≡ None → u ∷ [] ≡ call_item
    x v u w
unknown-is None v u w e h = refl
unknown-is (Some g) v u w e h = absurd (let z : Some (callee_of g.parameters g.variadic) ≡ None = sym e ∙ h in let o :
    ◌≡◌ {A = ℕ} 0 1 = cc in omega arith)

takes-is : {q : Option Callee} (x : Option Signature) (v : ℕ) (k : Callee) (u w : Item) → q ≡ callee x → q ≡ Some k
    → when (pick k.variadic (not (leb k.parameters v)) (not (eqb v k.parameters))) w ≡ call_item x v u w
takes-is None v k u w e h = absurd (let z : None ≡ Some k = sym e ∙ h in let o : ◌≡◌ {A = ℕ} 0 1 = cc in omega arith)
takes-is (Some g) v k u w e h =
    let z : Some (callee_of g.parameters g.variadic) ≡ Some k = sym e ∙ h in
    let y : callee_of g.parameters g.variadic ≡ k = cc in
    ap
    (λ (c : Callee). when (pick c.variadic (not (leb c.parameters v)) (not (eqb v c.parameters))) w) (sym y)

module _ (g : List ℕ → Option Signature) (n m : List ℕ) (v o : ℕ) (u w : Item) {q : Option Callee} (en : n ≡ m)
    (e : q ≡ callee (g n)) where
  pub unknown-call : q ≡ None → u ∷ [] ≡ call_item (g m) o u w
  unknown-call h = unknown-is (g m) o u w (e ∙ ap (λ (z : List ℕ). callee (g z)) en) h

  module _ (k : Callee) (r : Bool) (h : q ≡ Some k) (ev : v ≡ o)
      (er : r ≡ pick k.variadic (not (leb k.parameters v)) (not (eqb v k.parameters))) where
    judged-call : when r w ≡ call_item (g m) o u w
    judged-call =
        ap (λ (z : Bool). when z w) (er ∙ ap (λ (z : ℕ). pick k.variadic (not (leb k.parameters z)) (not (eqb z k.parameters))) ev)
        ∙ takes-is (g m) o k u w (e ∙ ap (λ (z : List ℕ). callee (g z)) en) h

    pub wrong-call : r ≡ true → w ∷ [] ≡ call_item (g m) o u w
    wrong-call t = ap (λ (z : Bool). when z w) (sym t) ∙ judged-call

    pub right-call : r ≡ false → [] ≡ call_item (g m) o u w
    right-call t = ap (λ (z : Bool). when z w) (sym t) ∙ judged-call

-- ---- a name
-- name k of the element i, by what was found of it among the declarations of a kind o
module _ (d : Doc) (u : Tree) (i k c o : ℕ) (ec : c ≡ kind_of d i) (eo : o ≡ owner_kind c) {r : Bool}
    (er : r ≡ is_declared (owners_of u o) ((tree_of d).text (i + 3 + k))) where
  told : is_declared (owners (schema_of u) (kind_of d i)) ((tree_of d).text (i + 3 + k)) ≡ r
  told =
      ap (λ (os : List Owner). is_declared os ((tree_of d).text (i + 3 + k)))
      (owners_of_lem u (kind_of d i) ∙ ap (owners_of u) (ap owner_kind (sym ec) ∙ sym eo)) ∙ sym er

  pub name-declared : r ≡ true → [] ≡ name_item (tree_of d) (schema_of u) i k
  unfolding name_item tree_of
  name-declared h = let y = told ∙ h in rw y

  pub name-undeclared : {x : ℕ} → x ≡ pick (eqb c 62) 3001 3002 → r ≡ false
      → item_at (tree_of d) i x 0 k ∷ [] ≡ name_item (tree_of d) (schema_of u) i k
  unfolding name_item tree_of
  name-undeclared e h = let y = told ∙ h in rw (y, e, ec)

pub element-value : (d : Doc) (i v : ℕ) → is_element (kind_of d i) ≡ true → v ≡ value_of d i → v ≡ (tree_of d).value i
element-value d i v e ev = ⊎_elim (λ h. value_read d i 62 v h (λ p. omega arith) ev)
    (λ h. value_read d i 63 v h (λ p. omega arith) ev) (element-cases (kind_of d i) e)

pub over-snoc : (f : ℕ → List Item) (k : ℕ) → over f 0 k ++ f k ≡ over f 0 (k + 1)
over-snoc f k =
    let e : k + 1 ≡ suc k = omega arith in
    rw e (ap (λ (l : List Item). over f 0 k ++ l) (sym (over-one f k)) ∙ over-join f 0 k (suc k) (omega arith)
    (omega arith))

-- ---- labels
pub made-create : (k held : ℕ) → k ≡ 62 → held ≡ 71 → eqb held 71 ≡ both (eqb k 62) (is_one (71 ∷ 72 ∷ []) held)
unfolding any_of
made-create k held h e = rw (h, e)

either-none : (a : Bool) → a ≡ either a false
either-none true = refl
either-none false = refl

pub made-merge : (k held : ℕ) → k ≡ 62 → (held ≡ 71 → ⊥) → eqb held 72 ≡ both (eqb k 62) (is_one (71 ∷ 72 ∷ []) held)
unfolding any_of
made-merge k held h e = rw (h, ne_eqb held 71 e) (either-none (eqb held 72))

module _ (t : Tree) (u : Schema) (i v : ℕ) {r : Bool} (ev : v ≡ t.value i)
    (er : r ≡ both (leb 2 v) (apart_among u (texts t (i + 1) v))) where
  set-test : both (leb 2 (t.value i)) (apart_among u (texts t (i + 1) (t.value i))) ≡ r
  set-test = ap (λ (z : ℕ). both (leb 2 z) (apart_among u (texts t (i + 1) z))) (sym ev) ∙ sym er

  set_is : (b : Bool) → r ≡ b → when b (spanless t i 4023 1) ≡ set_item t u i
  unfolding set_item
  set_is b h = ap (λ (z : Bool). when z (spanless t i 4023 1)) (sym (set-test ∙ h))

  pub set_apart : r ≡ true → spanless t i 4023 1 ∷ [] ≡ set_item t u i
  set_apart h = set_is true h

  pub set-fine : r ≡ false → [] ≡ set_item t u i
  set-fine h = set_is false h

both-assoc : (a b c : Bool) → both (both a b) c ≡ both a (both b c)
both-assoc true b c = refl
both-assoc false b c = refl

module _ (d : Doc) (u : Schema) (i held c : ℕ) {q : Bool} (eh : held ≡ holder (tree_of d) i) (ec : c ≡ kind_of d i)
    (eq : q ≡ both (eqb c 62) (is_one (71 ∷ 72 ∷ []) held)) where
  made-test : q ≡ both (eqb ((tree_of d).kind i) 62) (is_one (71 ∷ 72 ∷ []) (holder (tree_of d) i))
  made-test =
      eq ∙ ap (λ (z : ℕ). both (eqb z 62) (is_one (71 ∷ 72 ∷ []) held)) (ec ∙ sym (tree-kind d i))
      ∙ ap (λ (z : ℕ). both (eqb ((tree_of d).kind i) 62) (is_one (71 ∷ 72 ∷ []) z)) eh

  node-is : (a b : Bool) → q ≡ a → both (leb 2 ((tree_of d).value i / 2)) (apart_among u (names_of (tree_of d) i)) ≡ b
      → when (both a b) (item_at (tree_of d) i 4023 1 0) ≡ node_item (tree_of d) u i
  unfolding node_item
  node-is a b h g =
      let x : Item = item_at (tree_of d) i 4023 1 0 in
      ap (λ (z : Bool). when (both z b) x) (sym h ∙ made-test)
      ∙ ap (λ (z : Bool). when (both (both (eqb ((tree_of d).kind i) 62) (is_one (71 ∷ 72 ∷ []) (holder (tree_of d) i)))
      z) x) (sym g)
      ∙ ap (λ (z : Bool). when z x) (both-assoc (eqb ((tree_of d).kind i) 62)
      (is_one (71 ∷ 72 ∷ []) (holder (tree_of d) i)) _)

  pub node-unmade : q ≡ false → [] ≡ node_item (tree_of d) u i
  node-unmade h = node-is false _ h refl

  module _ (v : ℕ) {r : Bool} (ev : v ≡ (tree_of d).value i)
      (er : r ≡ both (leb 2 (v / 2)) (apart_among u (texts (tree_of d) (i + 3) (v / 2)))) (h : q ≡ true) where
    labels-test : both (leb 2 ((tree_of d).value i / 2)) (apart_among u (names_of (tree_of d) i)) ≡ r
    labels-test = ap (λ (z : ℕ). both (leb 2 (z / 2)) (apart_among u (texts (tree_of d) (i + 3) (z / 2)))) (sym ev)
        ∙ sym er

    pub node-apart : r ≡ true → item_at (tree_of d) i 4023 1 0 ∷ [] ≡ node_item (tree_of d) u i
    node-apart g = node-is true true h (labels-test ∙ g)

    pub node-fine : r ≡ false → [] ≡ node_item (tree_of d) u i
    node-fine g = node-is true false h (labels-test ∙ g)

-- ---- a token that is no element
module _ (d : Doc) (u : Schema) (i c : ℕ) (no : is_element (kind_of d i) ≡ false) (ec : c ≡ kind_of d i) where
  not-element : is_element ((tree_of d).kind i) ≡ false
  not-element = ap is_element (tree-kind d i) ∙ no

  is-kind : (k : ℕ) → c ≡ k → eqb ((tree_of d).kind i) k ≡ true
  is-kind k h = eq-eqb ((tree_of d).kind i) k (tree-kind d i ∙ sym ec ∙ h)

  is_other : (k : ℕ) → (c ≡ k → ⊥) → eqb ((tree_of d).kind i) k ≡ false
  is_other k h = ne_eqb ((tree_of d).kind i) k (λ p. h (ec ∙ sym (tree-kind d i) ∙ p))

  pub early-call : c ≡ 16 → call_item (function_of u ((tree_of d).text (i + 1))) ((tree_of d).value i)
      (spanless (tree_of d) i 3006 0) (spanless (tree_of d) i 3007 0) ≡ early (tree_of d) u i
  unfolding early
  early-call h = rw (not-element, is-kind 16 h)

  pub early-procedure : (c ≡ 16 → ⊥) → c ≡ 85
      → call_item (procedure_of u ((tree_of d).text (i + 3))) ((tree_of d).value i)
      (item_at (tree_of d) i 3008 0 0) (item_at (tree_of d) i 3007 0 0) ≡ early (tree_of d) u i
  unfolding early
  early-procedure p h = rw (not-element, is_other 16 p, is-kind 85 h)

  pub early-set : (c ≡ 16 → ⊥) → (c ≡ 85 → ⊥) → c ≡ 82 → set_item (tree_of d) u i ≡ early (tree_of d) u i
  unfolding early
  early-set p q h = rw (not-element, is_other 16 p, is_other 85 q, is-kind 82 h)

  pub early-none : (c ≡ 16 → ⊥) → (c ≡ 85 → ⊥) → (c ≡ 82 → ⊥) → [] ≡ early (tree_of d) u i
  unfolding early
  early-none p q h = rw (not-element, is_other 16 p, is_other 85 q, is_other 82 h)

-- ---- what a Call, a clause's Call and a Set's Labels open
call_opens : (k v : ℕ) → k ≡ 16 → (0 < length (opens k v)) × (get_or (opens k v) 0 Expr ≡ Name)
unfolding opens rules first any_of table
call_opens k v e = rw e (omega arith, refl)

procedure-opens : (k v : ℕ) → k ≡ 85 → (2 < length (opens k v)) × (get_or (opens k v) 0 Expr ≡ SpanStart)
    × (get_or (opens k v) 1 Expr ≡ SpanEnd) × (get_or (opens k v) 2 Expr ≡ Name)
unfolding opens rules first any_of table
procedure-opens k v e = rw e (omega arith, refl, refl, refl)

set-opens : (k v : ℕ) → k ≡ 82 → opens k v ≡ many v Name []
unfolding opens rules first any_of table
set-opens k v e = rw e

module _ (s d : List ℕ) (sizes : Sizes) {reg : List ℕ} (i : ℕ) (z : Lent s d sizes reg)
    (b : i < sizes.statement.tokens) where
  inside : i < length (doc_of s).tokens
  inside = omega (arith, z.sheet.tokens)

  -- the first two children are a start and an end
  spans : 1 < length (opens (kind_of (doc_of s) i) (value_of (doc_of s) i)) → get_or
      (opens (kind_of (doc_of s) i) (value_of (doc_of s) i)) 0 Expr ≡ SpanStart
      → get_or (opens (kind_of (doc_of s) i) (value_of (doc_of s) i)) 1 Expr ≡ SpanEnd → (kind_of (doc_of s) (i + 1) ≡ 51)
      × (kind_of (doc_of s) (i + 2) ≡ 51)
  spans l p q =
      let m : i + 1 + 0 ≡ i + 1 = omega arith in
      let n : i + 1 + 1 ≡ i + 2 = omega arith in
      let leaf : (a : ℕ) → a < 1 → Leaf (get_or (opens (kind_of (doc_of s) i) (value_of (doc_of s) i)) a Expr) =
      λ a h. let o : a ≡ 0 = omega arith in rw (o, p) leaf-span-start in
      let x = flat-allowed (doc_of s) WholeStatement z.read i inside 0 (omega arith) (λ a h. absurd (omega arith)) in
      let y = flat-allowed (doc_of s) WholeStatement z.read i inside 1 l leaf in
      let u : allowed (doc_of s) SpanStart (i + 1) ≡ true = rw (p, m) at x in
      let v : allowed (doc_of s) SpanEnd (i + 2) ≡ true = rw (q, n) at y in (
        start-kind _ (allowed-taken (doc_of s) SpanStart (i + 1) u),
        end-kind _
            (allowed-taken (doc_of s) SpanEnd (i + 2) v),
      )

  pub call-name : kind_of (doc_of s) i ≡ 16 → NameAt (doc_of s) (i + 1)
  call-name e =
      let o = call_opens (kind_of (doc_of s) i) (value_of (doc_of s) i) e in
      let m : i + 1 + 0 ≡ i + 1 = omega arith in
      let x = flat-allowed (doc_of s) WholeStatement z.read i inside 0 o.0 (λ a h. absurd (omega arith)) in
      name-at (doc_of s) (i + 1) (rw (o.1, m) at x)

  pub procedure-spans : kind_of (doc_of s) i ≡ 85 → (kind_of (doc_of s) (i + 1) ≡ 51) × (kind_of (doc_of s) (i + 2) ≡ 51)
  procedure-spans e =
      let o = procedure-opens (kind_of (doc_of s) i) (value_of (doc_of s) i) e in
      spans (omega (arith, o.0)) o.1 o.2

  pub procedure-name : kind_of (doc_of s) i ≡ 85 → NameAt (doc_of s) (i + 3)
  procedure-name e =
      let o = procedure-opens (kind_of (doc_of s) i) (value_of (doc_of s) i) e in
      let n : i + 1 + 2 ≡ i + 3 = omega arith in
      let leaf : (a : ℕ) → a < 2 → Leaf (get_or (opens (kind_of (doc_of s) i) (value_of (doc_of s) i)) a Expr) =
      λ a h. ⊎_elim (λ p. let w : a ≡ 0 = omega arith in rw (w, o.1) leaf-span-start)
      (λ p. let w : a ≡ 1 = omega arith in rw (w, o.2) leaf-span-end) (below a 1) in
      let x = flat-allowed (doc_of s) WholeStatement z.read i inside 2 o.0 leaf in
      name-at (doc_of s) (i + 3) (rw (o.3, n) at x)

  pub element-spans : is_element (kind_of (doc_of s) i) ≡ true → (kind_of (doc_of s) (i + 1) ≡ 51)
      × (kind_of (doc_of s) (i + 2) ≡ 51)
  element-spans e =
      let o = element-opens (kind_of (doc_of s) i) (value_of (doc_of s) i) e in
      spans (rw o (omega arith)) (rw o) (rw o)

  pub element-name : (k : ℕ) → is_element (kind_of (doc_of s) i) ≡ true → k < value_of (doc_of s) i / 2 → NameAt (doc_of s)
      (i + 3 + k)
  element-name k e l =
      let v = value_of (doc_of s) i in
      let ps = many (v % 2) Expr [] in
      let o = element-opens (kind_of (doc_of s) i) v e in
      let m : suc (suc k) < length (opens (kind_of (doc_of s) i) v) = rw o (omega (arith, many-length (v / 2) Name ps)) in
      let leaf : (a : ℕ) → a < suc (suc k) → Leaf (get_or (opens (kind_of (doc_of s) i) v) a Expr) = λ a h. rw o
      (element-leaf v a (omega arith)) in
      let p : get_or (opens (kind_of (doc_of s) i) v) (suc (suc k)) Expr ≡ Name = rw o (many-at (v / 2) k Name Expr ps l) in
      let n : i + 1 + suc (suc k) ≡ i + 3 + k = omega arith in
      let x = flat-allowed (doc_of s) WholeStatement z.read i inside (suc (suc k)) m leaf in
      name-at (doc_of s) (i + 3 + k) (rw (p, n) at x)

  pub element-is : is_element (kind_of (doc_of s) i) ≡ true → Element s d sizes reg i
  element-is e = record { register = z.register; here = b; element = e; names = λ k l. element-name k e l }

  -- the names of an element, and of a Set's Labels
  pub element-labelled : (v : ℕ) → is_element (kind_of (doc_of s) i) ≡ true → v ≡ value_of (doc_of s) i → Labelled s d sizes
      reg (i + 3) (v / 2)
  element-labelled v e ev =
      let a : NamesAt (doc_of s) (i + 3) (value_of (doc_of s) i / 2) = λ k l. element-name k e l in
      record {
        register = z.register;
        names = subst (λ (w : ℕ). NamesAt (doc_of s) (i + 3) (w / 2))
            (sym ev) a;
      }

  set-name : (k : ℕ) → kind_of (doc_of s) i ≡ 82 → k < value_of (doc_of s) i → NameAt (doc_of s) (i + 1 + k)
  set-name k e l =
      let v = value_of (doc_of s) i in
      let o = set-opens (kind_of (doc_of s) i) v e in
      let m : k < length (opens (kind_of (doc_of s) i) v) = rw o (omega (arith, many-length v Name [])) in
      let leaf : (a : ℕ) → a < k → Leaf (get_or (opens (kind_of (doc_of s) i) v) a Expr) = λ a h. rw
      (o, many-at v a Name Expr [] (omega arith)) leaf-name in
      let p : get_or (opens (kind_of (doc_of s) i) v) k Expr ≡ Name = rw o (many-at v k Name Expr [] l) in
      let x = flat-allowed (doc_of s) WholeStatement z.read i inside k m leaf in
      name-at (doc_of s) (i + 1 + k) (rw p at x)

  pub set-labelled : (v : ℕ) → kind_of (doc_of s) i ≡ 82 → v ≡ value_of (doc_of s) i → Labelled s d sizes reg (i + 1) v
  set-labelled v e ev =
      let a : NamesAt (doc_of s) (i + 1) (value_of (doc_of s) i) = λ k l. set-name k e l in
      record {
        register = z.register;
        names = subst (λ (w : ℕ). NamesAt (doc_of s) (i + 1) w)
            (sym ev) a;
      }
