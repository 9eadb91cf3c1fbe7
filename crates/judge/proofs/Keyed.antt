-- What the keys of an element's Map say, from what the code reads.
use mathlib.Core.Bool.{Bool, true, false, not}
use mathlib.Core.Logic.{⊎_elim}
use mathlib.Core.Path.{◌≡◌, refl, sym, ap, ◌∙◌, subst}
use mathlib.Core.List.{List, [], ◌∷◌, ◌++◌}
use Prim.Native.Nat.{ℕ, zero, suc, ◌+◌, ◌*◌, ◌/◌, ◌%◌, ◌≤◌, ◌<◌}
use native.Mathlib.Numerals.{add-one}
use native.Mathlib.Omega.{arith}
use borrow.Author.Tests.{eqb-true, ne_eqb, lt-leb, le-leb}
use lib.ListN.{length, get_or, get_or-eq_default}
use lib.Dec.{eqb, leb}
use Rattle.lists.specs.Lists.{pick, both, table, over, first, any_of}
use Rattle.lists.proofs.Tests.{below, both_true}
use Rattle.lists.proofs.Laws.{over-one, over-join}
use Rattle.frame.specs.Doc.{Doc, Token, kind_of, value_of}
use Rattle.rules.specs.declared.Place.{Place}
use Rattle.rules.specs.declared.Place.TheVariants.{WholeStatement, Name, SpanStart, SpanEnd, Expr}
use Rattle.rules.specs.Rules.{rules, opens, many, pairs}
use Rattle.grammar.specs.Machine.{allowed, grammar_fault}
use Rattle.grammar.specs.Inner.{Leaf, NameAt}
use Rattle.grammar.specs.Tree.{Tree, tree_of, past, end, child}
use Rattle.grammar.proofs.Places.{past-none, past-suc, end-node}
use Rattle.rules.proofs.Rows.{many-length}
use Rattle.rules.proofs.Children.{many-past, pairs-length, pairs-at, element_places, element-opens, map-opens, start-kind, end-kind}
use Rattle.grammar.proofs.Below.{element-leaf}
use Rattle.grammar.proofs.Formed.{arity-at, formed}
use Rattle.grammar.proofs.Flat.{tree-kind, tree-value, name-at, allowed-taken, allowed-inside, flat-allowed}
use Rattle.types.specs.declared.Ty.{Ty}
use Rattle.types.specs.Types.{literal, types_compatible}
use Rattle.provider.specs.Schema.{Schema, Property, property_of}
use Rattle.provider.specs.Inner.{property_found}
use Rattle.breach.specs.Breach.{Item, item_at, is_element, names_of, props_of, has_map, owners}
use Rattle.breach.specs.Listing.{when, key_judged, key_item, is_keyed}
use Rattle.breach.proofs.Exact.{element-cases}
use Rattle.judge.specs.Merged.{map_of, MapOf}
use Rattle.std.specs.Prelude.{Option, Some, None}

-- ---- what stands below an element
many-first : (n : ℕ) → get_or (many n Expr []) 0 Expr ≡ Expr
unfolding many
many-first zero = refl
many-first (suc n) = refl

odd : (v : ℕ) → (v % 2 ≡ 0 → ⊥) → v % 2 ≡ 1
odd v h = ⊎_elim (λ l. absurd (h (omega arith))) (λ l. omega arith) (below (v % 2) 1)

module _ (d : Doc) (h : grammar_fault WholeStatement d ≡ None) (i : ℕ) (b : i < length d.tokens)
    (e : is_element (kind_of d i) ≡ true) where
  -- child c, where the ones before it are a span and Names
  element-child : (c j : ℕ) (p : Place) → c ≤ 2 + value_of d i / 2 → c < 2 + value_of d i / 2 + value_of d i % 2 → get_or
      (element_places (value_of d i)) c Expr ≡ p → i + 1 + c ≡ j → allowed d p j ≡ true
  element-child c j p m l g ej =
      let o = element-opens (kind_of d i) (value_of d i) e in
      let n : c < length (opens (kind_of d i) (value_of d i)) = rw o
      (omega (
        arith,
        many-length (value_of d i / 2) Name (many (value_of d i % 2) Expr []),
        many-length
            (value_of d i % 2) Expr [],
      )) in
      let a = flat-allowed d WholeStatement h i b c n (λ a q. subst (λ (ps : List Place). Leaf (get_or ps a Expr))
      (sym o) (element-leaf (value_of d i) a (omega arith))) in
      let q : get_or (opens (kind_of d i) (value_of d i)) c Expr ≡ p = ap (λ (ps : List Place). get_or ps c Expr) o ∙ g in
      subst (λ (n : ℕ). allowed d p n ≡ true) ej (subst (λ (z : Place). allowed d z (i + 1 + c) ≡ true) q a)

  pub start-number : kind_of d (i + 1) ≡ 51
  start-number = start-kind (kind_of d (i + 1)) (allowed-taken d SpanStart (i + 1)
      (element-child 0 (i + 1) SpanStart (omega arith) (omega arith) refl (omega arith)))

  pub end-number : kind_of d (i + 2) ≡ 51
  end-number = end-kind (kind_of d (i + 2)) (allowed-taken d SpanEnd (i + 2)
      (element-child 1 (i + 2) SpanEnd (omega arith) (omega arith) refl (omega arith)))

  -- its properties behind the names
  pub props-in : (v : ℕ) → v ≡ value_of d i → (v % 2 ≡ 0 → ⊥) → i + 3 + v / 2 < length d.tokens
  props-in v ev g =
      let o = odd v g in
      rw ev
      (allowed-inside d Expr _ (element-child (suc (suc (value_of d i / 2))) (i + 3 + value_of d i / 2) Expr
      (omega arith) (omega arith) (many-past (value_of d i / 2) Name Expr (many (value_of d i % 2) Expr [])
      ∙ many-first (value_of d i % 2)) (omega arith)))

  pub element-value : (tree_of d).value i ≡ value_of d i
  element-value = tree-value d i (λ z. ⊎_elim (λ f. omega arith) (λ f. omega arith) (element-cases (kind_of d i) e))

-- ---- the judgement of a key, from what was found
judged-undeclared : (o : Option Property) (l : Option Ty) (u w : Item) {q : Option Ty} → q ≡ property_found o → q
    ≡ None → u ∷ [] ≡ key_judged o l u w
judged-undeclared None l u w e h = refl
judged-undeclared (Some p) l u w e h = absurd (let z : Some p.type ≡ None = sym e ∙ h in let o : ◌≡◌
    {A = ℕ} 0 1 = cc in omega arith)

judged-untyped : (o : Option Property) (l : Option Ty) (u w : Item) {q : Option Ty} (y : Ty) → q ≡ property_found o
    → q ≡ Some y → l ≡ None → [] ≡ key_judged o l u w
judged-untyped None l u w y e h g = absurd (let z : None ≡ Some y = sym e ∙ h in let o : ◌≡◌ {A = ℕ} 0 1 =
    cc in omega arith)
judged-untyped (Some p) l u w y e h g = rw g

judged-typed : (o : Option Property) (l : Option Ty) (u w : Item) {q : Option Ty} (y a : Ty) → q ≡ property_found o
    → q ≡ Some y → l ≡ Some a → when (not (types_compatible a y)) w ≡ key_judged o l u w
judged-typed None l u w y a e h g = absurd (let z : None ≡ Some y = sym e ∙ h in let o : ◌≡◌ {A = ℕ} 0 1 =
    cc in omega arith)
judged-typed (Some p) l u w y a e h g =
    let z : Some y ≡ Some p.type = sym h ∙ e in
    let x : y ≡ p.type = cc in
    rw (g, x)

module _ (t : Tree) (s : Schema) (i k at : ℕ) (ea : at ≡ child t (props_of t i) (2 * k))
    (eb : at + 1 ≡ child t (props_of t i) (2 * k + 1)) (key : List ℕ) (ek : key ≡ t.text at) where
  key-is : key_judged (property_of (owners s (t.kind i)) (names_of t i) key) (literal t (at + 1)) (item_at t i 3003 2 k)
      (item_at t i 3004 2 k) ≡ key_item t s i k
  unfolding key_item
  key-is = rw (eb, ek, ea)

  module _ {q : Option Ty} (e : q ≡ property_found (property_of (owners s (t.kind i)) (names_of t i) key)) where
    pub key-undeclared : q ≡ None → item_at t i 3003 2 k ∷ [] ≡ key_item t s i k
    key-undeclared h = judged-undeclared (property_of (owners s (t.kind i)) (names_of t i) key) (literal t (at + 1))
        (item_at t i 3003 2 k) (item_at t i 3004 2 k) e h ∙ key-is

    module _ (y : Ty) (h : q ≡ Some y) {l : Option Ty} (el : l ≡ literal t (at + 1)) where
      pub key-untyped : l ≡ None → [] ≡ key_item t s i k
      key-untyped g = judged-untyped (property_of (owners s (t.kind i)) (names_of t i) key) (literal t (at + 1))
          (item_at t i 3003 2 k) (item_at t i 3004 2 k) y e h (sym el ∙ g) ∙ key-is

      module _ (a : Ty) (g : l ≡ Some a) (b : Bool) (et : b ≡ types_compatible a y) where
        key-typed : when (not b) (item_at t i 3004 2 k) ≡ key_item t s i k
        key-typed =
            ap (λ (z : Bool). when (not z) (item_at t i 3004 2 k)) et
            ∙ judged-typed (property_of (owners s (t.kind i)) (names_of t i) key) (literal t (at + 1))
            (item_at t i 3003 2 k) (item_at t i 3004 2 k) y a e h (sym el ∙ g)
            ∙ key-is

        pub key_right : b ≡ true → [] ≡ key_item t s i k
        key_right f = ap (λ (z : Bool). when (not z) (item_at t i 3004 2 k)) (sym f) ∙ key-typed

        pub key-wrong : b ≡ false → item_at t i 3004 2 k ∷ [] ≡ key_item t s i k
        key-wrong f = ap (λ (z : Bool). when (not z) (item_at t i 3004 2 k)) (sym f) ∙ key-typed

-- ---- the pairs of a Map
name-opens : (k v : ℕ) → k ≡ 50 → opens k v ≡ []
unfolding opens rules first any_of table
name-opens k v e = rw e

name-end : (d : Doc) (j : ℕ) → NameAt d j → end (tree_of d) j ≡ suc j
unfolding tree_of
name-end d j z =
    end-node (tree_of d) j z.inside
    ∙ ap (λ (n : ℕ). past (tree_of d) n (suc j)) (arity-at d j ∙ ap length
    (name-opens (kind_of d j) (value_of d j) z.kind))
    ∙ past-none (tree_of d) (suc j)

module _ (d : Doc) (h : grammar_fault WholeStatement d ≡ None) (m : ℕ) (b : m < length d.tokens)
    (e : kind_of d m ≡ 14) (k : ℕ) (l : k < value_of d m) (at : ℕ) (ea : at ≡ child (tree_of d) m (2 * k)) where
  map-child : (c : ℕ) → c < 2 * value_of d m → allowed d (get_or (pairs (value_of d m) []) c Expr) (child (tree_of d) m c)
      ≡ true
  map-child c n =
      let o = map-opens (kind_of d m) (value_of d m) e in
      let g : c < length (opens (kind_of d m) (value_of d m)) = rw o (omega (arith, pairs-length (value_of d m) [])) in
      subst (λ (ps : List Place). allowed d (get_or ps c Expr) (child (tree_of d) m c) ≡ true) o
      (formed d WholeStatement h m b c g)

  pub key-name : NameAt d at
  key-name =
      let a : allowed d Name (child (tree_of d) m (2 * k)) ≡ true =
      subst (λ (p : Place). allowed d p (child (tree_of d) m (2 * k)) ≡ true) (pairs-at (value_of d m) k l)
      (map-child (2 * k) (omega arith)) in
      name-at d at (subst (λ (j : ℕ). allowed d Name j ≡ true) (sym ea) a)

  pub key-value : at + 1 ≡ child (tree_of d) m (2 * k + 1)
  key-value =
      let z : 2 * k + 1 ≡ suc (2 * k) = omega arith in
      add-one at ∙ sym (name-end d at key-name) ∙ ap (end (tree_of d)) ea ∙ sym (past-suc (tree_of d) (2 * k) (suc m))
      ∙ ap (child (tree_of d) m) (sym z)

  pub value_there : at + 1 < length d.tokens
  value_there = subst (λ (j : ℕ). j < length d.tokens) (sym key-value)
      (allowed-inside d _ (child (tree_of d) m (2 * k + 1)) (map-child (2 * k + 1) (omega arith)))

  pub key-next : (x : ℕ) → x ≡ end (tree_of d) (at + 1) → x ≡ child (tree_of d) m (2 * (k + 1))
  key-next x ex =
      let z : suc (2 * k + 1) ≡ 2 * (k + 1) = omega arith in
      ex ∙ ap (end (tree_of d)) key-value ∙ sym (past-suc (tree_of d) (2 * k + 1) (suc m)) ∙ ap (child (tree_of d) m) z

-- ---- whether an element has a name and a Map
pub pick-off : (a b : Bool) (xs : List Item) → b ≡ false → [] ≡ pick (both a b) xs []
pick-off true b xs e = rw e
pick-off false b xs e = refl

both-off : (a b : Bool) → b ≡ false → both a b ≡ false
both-off true b e = e
both-off false b e = refl

module _ (t : Tree) (i v : ℕ) (ev : v ≡ t.value i) where
  unkeyed : both (leb 1 (t.value i / 2)) (has_map t i) ≡ false → None ≡ map_of t i
  unkeyed e = rw (both-off (is_element (t.kind i)) (both (leb 1 (t.value i / 2)) (has_map t i)) e)

  pub map-nameless : v < 2 → None ≡ map_of t i
  map-nameless h = unkeyed (rw (← ev, lt-leb 1 (v / 2) (omega arith)))

  pub map-bare : v % 2 ≡ 0 → None ≡ map_of t i
  map-bare h =
      let e : has_map t i ≡ false = rw (← ev, h) in
      unkeyed (both-off (leb 1 (t.value i / 2)) (has_map t i) e)

  module _ (k : ℕ) (ek : k ≡ t.kind (i + 3 + v / 2)) where
    pub map_other : (k ≡ 14 → ⊥) → None ≡ map_of t i
    map_other h =
        let e : has_map t i ≡ false = rw (← ev, ← ek, ne_eqb k 14 h) (both-off (eqb (v % 2) 1) false refl) in
        unkeyed (both-off (leb 1 (t.value i / 2)) (has_map t i) e)

    pub map-there : is_element (t.kind i) ≡ true → 2 ≤ v → (v % 2 ≡ 0 → ⊥) → k ≡ 14 → Some (i + 3 + v / 2) ≡ map_of t i
    map-there e h g f =
        let o = odd v g in
        rw (e, ← ev, ← ek, le-leb 1 (v / 2) (omega arith), o, f)

-- a token with a kind is there
kind-there : (d : Doc) (j : ℕ) → (kind_of d j ≡ 0 → ⊥) → j < length d.tokens
kind-there d j h = ⊎_elim
    (λ p. p)
    (λ p. absurd (h (ap (λ (z : Token). z.kind) (get_or-eq_default d.tokens (record { kind = 0; value = 0 })
    p))))
    (below j (length d.tokens))

-- ---- what was found tells whether it has, and where its Map stands
found_some : (b : Bool) (x m : ℕ) {q : Option ℕ} → q ≡ pick b (Some x) None → q ≡ Some m → (b ≡ true) × (m ≡ x)
found_some true x m e h =
    let z : Some m ≡ Some x = sym h ∙ e in
    let y : m ≡ x = cc in
    (refl, y)
found_some false x m e h = absurd (let z : None ≡ Some m = sym e ∙ h in let o : ◌≡◌ {A = ℕ} 0 1 = cc in omega arith)

found_none : (b : Bool) (x : ℕ) {q : Option ℕ} → q ≡ pick b (Some x) None → q ≡ None → b ≡ false
found_none true x e h = absurd (let z : Some x ≡ None = sym e ∙ h in let o : ◌≡◌ {A = ℕ} 0 1 = cc in omega arith)
found_none false x e h = refl

keyed-map : (t : Tree) (i : ℕ) → is_keyed t i ≡ true → t.kind (props_of t i) ≡ 14
keyed-map t i e =
    let a = (both_true (is_element (t.kind i)) (both (leb 1 (t.value i / 2)) (has_map t i)) e).1 in
    let b = (both_true (leb 1 (t.value i / 2)) (has_map t i) a).1 in
    eqb-true _ _ (both_true (eqb (t.value i % 2) 1) (eqb (t.kind (props_of t i)) 14) b).1

module _ (d : Doc) (i : ℕ) {q : Option ℕ} (e : q ≡ map_of (tree_of d) i) where
  pub map-keyed : (m : ℕ) → q ≡ Some m → is_keyed (tree_of d) i ≡ true
  map-keyed m h = (found_some (is_keyed (tree_of d) i) (props_of (tree_of d) i) m e h).0

  pub map_found : (m : ℕ) → q ≡ Some m → MapOf d i m
  map_found m h =
      let r = found_some (is_keyed (tree_of d) i) (props_of (tree_of d) i) m e h in
      let k : kind_of d m ≡ 14 = ap (kind_of d) r.1 ∙ sym (tree-kind d (props_of (tree_of d) i)) ∙ keyed-map (tree_of d)
      i r.0 in
      record { inside = kind-there d m (λ z. omega arith); kind = k; is = r.1 }

  pub map-missing : q ≡ None → is_keyed (tree_of d) i ≡ false
  map-missing h = found_none (is_keyed (tree_of d) i) (props_of (tree_of d) i) e h

-- one thing or nothing, by whether it has
pub keyed-on : (b : Bool) (xs : List Item) → b ≡ true → xs ≡ pick b xs []
keyed-on b xs e = rw e

pub keyed-off : (b : Bool) (xs : List Item) → b ≡ false → [] ≡ pick b xs []
keyed-off b xs e = rw e

-- one key more
pub keys_on : (f : ℕ → List Item) (k : ℕ) → over f 0 k ++ f k ≡ over f 0 (k + 1)
keys_on f k =
    ap (λ (l : List Item). over f 0 k ++ l) (sym (over-one f k)) ∙ over-join f 0 k (suc k) (omega arith) (omega arith)
    ∙ ap (over f 0) (sym (add-one k))

-- as many as the Map has pairs
pub keys-all : (d : Doc) (i m n : ℕ) (f : ℕ → List Item) → MapOf d i m → n ≡ value_of d m → over f 0 n ≡ over f 0
    ((tree_of d).value (props_of (tree_of d) i))
keys-all d i m n f z e =
    ap (over f 0) (e ∙ sym (tree-value d m (λ o. omega (arith, z.kind))) ∙ ap (λ (j : ℕ). (tree_of d).value j) z.is)
