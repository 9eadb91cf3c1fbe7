-- What a token of whole trees says is the same where they stand elsewhere.
use mathlib.Core.Path.{◌≡◌, refl, sym, ap, ◌∙◌}
use mathlib.Core.Bool.{Bool, true, false}
use mathlib.Core.Logic.{⊎_elim, ◌⊎◌, inl, inr}
use mathlib.Core.List.{[], ◌∷◌}
use Prim.Native.Nat.{ℕ, zero, suc, ◌+◌, ◌-◌, ◌*◌, ◌/◌, ◌%◌, ◌≤◌, ◌<◌}
use native.Mathlib.Omega.{arith}
use borrow.Author.Tests.{eqb-true, eqb-false}
use lib.Dec.{eqb}
use Rattle.lists.specs.Lists.{pick, both, table, first, any_of, is_one}
use Rattle.lists.proofs.Tests.{below, both_true}
use Rattle.lists.proofs.Joins.{table-moved, table_same}
use Rattle.rules.specs.declared.Place.TheVariants.{Name, Expr}
use Rattle.rules.specs.Rules.{rules, opens, arity}
use Rattle.rules.proofs.Rows.{many-length}
use Rattle.grammar.specs.Tree.{Tree, end, child, enclosing, parent, texts}
use Rattle.grammar.proofs.Places.{parent_in}
use Rattle.types.specs.Types.{ty, deeper, literal_in, literal}
use Rattle.breach.specs.Breach.{is_element, names_of, props_of, has_map, key_at, value_at, keys_of, holder}
use Rattle.breach.proofs.Shapes.{element-arity, map-arity}
use Rattle.moving.proofs.Trees.{Ends, Same, all_there, child-in, room, child-moved, parent-moved}
use Rattle.std.specs.Prelude.{Some, None}

-- ---- how many tokens belong to a token
-- a List: its items
list_counts : (k v : ℕ) → k ≡ 13 → arity k v ≡ v
unfolding arity opens rules first any_of table
list_counts k v e = rw e (omega (arith, many-length v Expr []))

-- a function call: its name and its arguments
function-counts : (k v : ℕ) → k ≡ 16 → arity k v ≡ 1 + v
unfolding arity opens rules first any_of table
function-counts k v e = rw e (omega (arith, many-length v Expr []))

-- a procedure call: start, end, name and arguments
procedure-counts : (k v : ℕ) → k ≡ 85 → arity k v ≡ 3 + v
unfolding arity opens rules first any_of table
procedure-counts k v e = rw e (omega (arith, many-length v Expr []))

-- a Set's Labels: Names
labels-counts : (k v : ℕ) → k ≡ 82 → arity k v ≡ v
unfolding arity opens rules first any_of table
labels-counts k v e = rw e (omega (arith, many-length v Name []))

-- ---- whole trees from lo up to hi, elsewhere in another tree
module _ {t u : Tree} {m lo hi at : ℕ} (w : Ends t m lo hi) (e : Same t u lo hi at) where
  -- the type of a literal: a list's goes by its first item, which stands right after it
  literal-by : (l k i j : ℕ) → at + i ≡ lo + j → lo ≤ i → i < hi → hi ≤ i + l → hi ≤ i + k
      → literal_in u k j ≡ literal_in t l i
  unfolding literal_in
  literal-by zero k i j o a b c d = absurd (omega arith)
  literal-by (suc l) zero i j o a b c d = absurd (omega arith)
  literal-by (suc l) (suc k) i j o a b c d =
      rw (e.kind i j o a b, e.value i j o a b)
      (rest (eqb (t.kind i) 13) (eqb (t.value i) 0) refl refl
      (λ y. literal-by l k (suc i) (suc j) (omega arith) (omega arith) y (omega arith) (omega arith)))
    where
      rest : (p q : Bool) → eqb (t.kind i) 13 ≡ p → eqb (t.value i) 0 ≡ q
          → (suc i < hi → literal_in u k (suc j) ≡ literal_in t l (suc i))
          → pick (is_one (1 ∷ 2 ∷ 3 ∷ 4 ∷ 5 ∷ []) (t.kind i)) (Some (ty (t.kind i) 0))
          (pick p (pick q (Some (ty 0 1)) (deeper (literal_in u k (suc j)))) None)
          ≡ pick (is_one (1 ∷ 2 ∷ 3 ∷ 4 ∷ 5 ∷ []) (t.kind i)) (Some (ty (t.kind i) 0))
          (pick p (pick q (Some (ty 0 1)) (deeper (literal_in t l (suc i)))) None)
      rest false q f g h = refl
      rest true true f g h = refl
      rest true false f g h =
          let z : 0 < t.value i = ⊎_elim (λ x. x) (λ x. absurd (eqb-false (t.value i) 0 g (omega arith)))
          (below 0 (t.value i)) in
          let n = list_counts (t.kind i) (t.value i) (eqb-true _ _ f) in
          let y : suc i < hi = omega (arith, room w i a b 0 (omega (arith, n))) in
          rw (h y)

  -- a token has the same literal type
  pub literal-moved : (i j : ℕ) → at + i ≡ lo + j → lo ≤ i → i < hi → literal u j ≡ literal t i
  literal-moved i j o a b =
      literal-by (t.size - i) (u.size - j) i j o a b (omega (arith, all_there w i a b)) (omega (arith, e.inside))

  -- token i of the one, j of the other
  module _ (i j : ℕ) (d : at + i ≡ lo + j) (p : lo ≤ i) (q : i < hi) where
    -- its kind and its value are the same
    pub same_kind : u.kind j ≡ t.kind i
    same_kind = e.kind i j d p q

    pub same-value : u.value j ≡ t.value i
    same-value = e.value i j d p q

    -- the two values of a span
    pub span_same : i + 2 < hi → (u.value (j + 1) ≡ t.value (i + 1)) × (u.value (j + 2) ≡ t.value (i + 2))
    span_same h = (
      e.value (i + 1) (j + 1) (omega arith) (omega arith) (omega arith),
      e.value (i + 2) (j + 2) (omega arith) (omega arith) h,
    )

    -- a text that stands k further, and c texts
    text_at : (k : ℕ) → i + k < hi → u.text (j + k) ≡ t.text (i + k)
    text_at k h = e.text (i + k) (j + k) (omega arith) (omega arith) h

    texts-same : (k c : ℕ) → i + k + c ≤ hi → texts u (j + k) c ≡ texts t (i + k) c
    texts-same k c h = table-moved (λ x. t.text x) (λ x. u.text x) c (i + k) (j + k)
        (λ x y o a b. e.text x y (omega arith) (omega arith) (omega arith))

    -- an element: its span, its names, and whether its properties are a Map
    module _ (el : is_element (t.kind i) ≡ true) where
      -- as many tokens follow as belong to it
      element-room : (c : ℕ) → c < (2 + t.value i / 2) + t.value i % 2 → i + 1 + c < hi
      element-room c h = room w i p q c (omega (arith, element-arity (t.kind i) (t.value i) el))

      -- its span is there, and so are its names
      pub element-span : i + 2 < hi
      element-span = omega (arith, element-room 1 (omega arith))

      names-room : i + 3 + t.value i / 2 ≤ hi
      names-room = omega (arith, element-room (1 + t.value i / 2) (omega arith))

      -- its names, and each of them
      pub names_same : names_of u j ≡ names_of t i
      names_same = rw same-value (texts-same 3 (t.value i / 2) names-room)

      pub name-text : (k : ℕ) → k < t.value i / 2 → u.text (j + 3 + k) ≡ t.text (i + 3 + k)
      name-text k b = e.text (i + 3 + k) (j + 3 + k) (omega arith) (omega arith) (omega (arith, names-room))

      -- its properties correspond
      props-moved : at + props_of t i ≡ lo + props_of u j
      props-moved = rw same-value (omega arith)

      -- whether they are a Map
      pub map_same : has_map u j ≡ has_map t i
      map_same = rw same-value (go (eqb (t.value i % 2) 1) refl)
        where
          go : (b : Bool) → eqb (t.value i % 2) 1 ≡ b → both b (eqb (u.kind (j + 3 + t.value i / 2)) 14) ≡ both b
              (eqb (t.kind (props_of t i)) 14)
          go false f = refl
          go true f =
              let r = eqb-true (t.value i % 2) 1 f in
              ap (λ (k : ℕ). eqb k 14) (e.kind (props_of t i) (j + 3 + t.value i / 2) (omega arith) (omega arith)
              (omega (arith, element-room (2 + t.value i / 2) (omega arith))))

      -- its properties are a Map: its keys, and the types of their values
      module _ (mp : has_map t i ≡ true) where
        -- the Map is there, and two tokens for each of its keys
        props-in : props_of t i < hi
        props-in =
            let r = eqb-true (t.value i % 2) 1 (both_true (eqb (t.value i % 2) 1) _ mp).0 in
            omega (arith, element-room (2 + t.value i / 2) (omega arith))

        map-size : arity (t.kind (props_of t i)) (t.value (props_of t i)) ≡ 2 * t.value (props_of t i)
        map-size = map-arity (t.kind (props_of t i)) (t.value (props_of t i))
            (eqb-true _ _ (both_true (eqb (t.value i % 2) 1) _ mp).1)

        -- as many keys
        pub count_same : u.value (props_of u j) ≡ t.value (props_of t i)
        count_same = e.value (props_of t i) (props_of u j) props-moved (omega arith) props-in

        -- what stands below the Map corresponds
        below-moved : (c : ℕ) → c < 2 * t.value (props_of t i)
            → (at + child t (props_of t i) c ≡ lo + child u (props_of u j) c)
            × (lo ≤ child t (props_of t i) c) × (child t (props_of t i) c < hi)
        below-moved c h =
            let n = map-size in
            let r = child-in w (props_of t i) (omega arith) props-in c (omega arith) in
            let o = child-moved w e (props_of t i) (props_of u j) c props-moved (omega arith) props-in (omega arith) in
            (sym o, omega (arith, r.0), r.1)

        -- key k
        pub key-same : (k : ℕ) → k < t.value (props_of t i) → key_at u j k ≡ key_at t i k
        key-same k h =
            let r = below-moved (2 * k) (omega arith) in
            e.text (child t (props_of t i) (2 * k)) (child u (props_of u j) (2 * k)) r.0 r.1 r.2

        -- the literal type of the value of key k
        pub literal-same : (k : ℕ) → k < t.value (props_of t i) → literal u (value_at u j k) ≡ literal t (value_at t i k)
        literal-same k h =
            let r = below-moved (2 * k + 1) (omega arith) in
            literal-moved (value_at t i k) (value_at u j k) r.0 r.1 r.2

        -- all keys
        pub keys-same : keys_of u j ≡ keys_of t i
        keys-same = rw count_same (table_same (key_at t i) (key_at u j) (t.value (props_of t i)) key-same)

    -- the name of a function and of a procedure, the span of the latter, and the labels of a Set's Labels
    pub function-text : t.kind i ≡ 16 → u.text (j + 1) ≡ t.text (i + 1)
    function-text k =
        let n = function-counts (t.kind i) (t.value i) k in
        text_at 1 (omega (arith, room w i p q 0 (omega arith)))

    procedure-room : t.kind i ≡ 85 → i + 3 < hi
    procedure-room k =
        let n = procedure-counts (t.kind i) (t.value i) k in
        omega (arith, room w i p q 2 (omega arith))

    pub procedure-span : t.kind i ≡ 85 → i + 2 < hi
    procedure-span k = omega (arith, procedure-room k)

    pub procedure-text : t.kind i ≡ 85 → u.text (j + 3) ≡ t.text (i + 3)
    procedure-text k = text_at 3 (procedure-room k)

    pub labels-text : t.kind i ≡ 82 → texts u (j + 1) (t.value i) ≡ texts t (i + 1) (t.value i)
    labels-text k =
        let n = labels-counts (t.kind i) (t.value i) k in
        texts-same 1 (t.value i) (⊎_elim
        (λ b. omega (arith, room w i p q (t.value i - 1) (omega arith)))
        (λ b. omega arith)
        (below 0 (t.value i)))

-- ---- the clause at c, which is the clause at `at` of another statement
pub record Carried (t u : Tree) (c at : ℕ) : Type 0 where
  pub whole : Ends t 1 c (end t c)
  pub same : Same t u c (end t c) at
  -- each of the two belongs to the first token, and those are of one kind
  pub top : parent t c ≡ 0
  pub top' : parent u at ≡ 0
  pub roots : u.kind 0 ≡ t.kind 0

module _ {t u : Tree} {c at : ℕ} (k : Carried t u c at) where
  -- a token of the clause and its place, or the first token of each
  abbrev Linked : ℕ → ℕ → Type 0
  Linked i j = ((at + i ≡ c + j) × (c ≤ i) × (i < end t c)) ⊎ ((i ≡ 0) × (j ≡ 0))

  -- linked tokens are of one kind
  linked-kind : (i j : ℕ) → Linked i j → u.kind j ≡ t.kind i
  linked-kind i j (inl r) = k.same.kind i j r.0 r.1 r.2
  linked-kind i j (inr r) = rw (r.0, r.1) k.roots

  -- and belong to linked tokens
  linked-parent : (i j : ℕ) → Linked i j → Linked (parent t i) (parent u j)
  unfolding enclosing
  linked-parent i j (inl r) = ⊎_elim
      (λ b. let g = parent_in t c i b r.2 in
      let o = parent-moved k.whole k.same c i j r.0 (omega arith) b r.2 r.2 in
      inl (sym o, g.0, omega (arith, g.1, r.2)))
      (λ b. let z : i ≡ c = omega (arith, r.1) in
      let y : j ≡ at = omega (arith, r.0) in
      inr (ap (parent t) z ∙ k.top, ap (parent u) y ∙ k.top'))
      (below c i)
  linked-parent i j (inr r) = inr (rw r.0, rw r.1)

  -- the token that an element's pattern stands in is of the same kind
  pub holder-moved : (i j : ℕ) → at + i ≡ c + j → c ≤ i → i < end t c → holder u j ≡ holder t i
  unfolding holder
  holder-moved i j d p q =
      let a = linked-parent i j (inl (d, p, q)) in
      let b = linked-parent (parent t i) (parent u j) a in
      linked-kind _ _ (linked-parent (parent t (parent t i)) (parent u (parent u j)) b)
