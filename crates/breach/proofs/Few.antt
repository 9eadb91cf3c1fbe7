-- An accepted statement has no more breaches than tokens: each can be charged to a token of its own. An element's
-- names pay for its stage 0, the keys of its Map for its stage 2, and itself, its two Numbers and the Map for the
-- others.
use mathlib.Core.Bool.{Bool, true, false}
use mathlib.Core.Logic.{⊎_elim, inl}
use mathlib.Core.Path.{◌≡◌, refl, sym, ap, ◌∙◌, subst}
use mathlib.Core.List.{List, [], ◌++◌}
use Prim.Native.Nat.{ℕ, zero, suc, ◌+◌, ◌-◌, ◌*◌, ◌/◌, ◌%◌, ◌≤◌, ◌<◌}
use native.Mathlib.Nat.{zero-add, add-zero}
use native.Mathlib.Omega.{arith}
use borrow.Author.Tests.{ne_eqb, eqb-true}
use lib.ListN.{length, length-append}
use lib.Dec.{eqb, leb}
use Rattle.lists.specs.Lists.{pick, each, table, over}
use Rattle.lists.proofs.Tests.{below, both_true, pick_true}
use Rattle.lists.proofs.Laws.{each_from, over_none, over-one, over-join, over-most, over-lengths}
use Rattle.rules.specs.Rules.{arity}
use Rattle.grammar.specs.Tree.{Tree, past, end, child}
use Rattle.grammar.proofs.Places.{past-none, past-out, past-add, past-suc, past-ge, end-node}
use Rattle.provider.specs.Schema.{Schema}
use Rattle.breach.specs.Breach.{Item, is_element, props_of, has_map}
use Rattle.breach.specs.Listing.{name_item, node_item, key_item, is_keyed, element_items, early, late, clause_items, listed}
use Rattle.breach.proofs.Exact.{not-element}
use Rattle.breach.proofs.Items.{lone-most, name-lone, function-lone, procedure-lone, node-lone, set-lone, key-lone, late-lone}
use Rattle.breach.proofs.Shapes.{Leaf, Shaped}

pick-most : (b : Bool) (n : ℕ) (l m : List Item) → length l ≤ n → length m ≤ n → length (pick b l m) ≤ n
pick-most true n l m p q = p
pick-most false n l m p q = q

-- ---- how many items a token has
module _ (t : Tree) (s : Schema) (i : ℕ) where
  -- an element: one for each name, one of stage 1, one for each key of its Map
  keyed-most : (b : Bool) → length (pick b (over (key_item t s i) 0 (t.value (props_of t i))) []) ≤ pick b
      (t.value (props_of t i)) 0
  keyed-most true = omega (
    arith,
    over-most (key_item t s i) 0 (t.value (props_of t i))
        (λ j. lone-most (key-lone t s i j)),
  )
  keyed-most false = omega arith

  element-most : length (element_items t s i) ≤ t.value i / 2 + 1 + pick (is_keyed t i) (t.value (props_of t i)) 0
  unfolding element_items
  element-most = omega (
    arith,
    length-append (over (name_item t s i) 0 (t.value i / 2) ++ node_item t s i)
        (pick (is_keyed t i) (over (key_item t s i) 0 (t.value (props_of t i))) []),
    length-append (over (name_item t s i) 0 (t.value i / 2)) (node_item t s i),
    over-most (name_item t s i) 0 (t.value i / 2) (λ j. lone-most (name-lone t s i j)),
    lone-most (node-lone t s i),
    keyed-most (is_keyed t i),
  )

  early-element : is_element (t.kind i) ≡ true → length (early t s i) ≤ t.value i / 2 + 1 + pick (is_keyed t i)
      (t.value (props_of t i)) 0
  unfolding early
  early-element e =
      subst (λ (l : List Item). length l ≤ t.value i / 2 + 1 + pick (is_keyed t i) (t.value (props_of t i)) 0)
      (sym (pick_true (element_items t s i) _ e))
      element-most

  -- another token: one, and none where it is no Call and no Set's Labels
  early-other : is_element (t.kind i) ≡ false → length (early t s i) ≤ 1
  unfolding early
  early-other e = rw e
      (pick-most (eqb (t.kind i) 16) 1 _ _ (lone-most (function-lone t s i))
      (pick-most (eqb (t.kind i) 85) 1 _ _ (lone-most (procedure-lone t s i))
      (pick-most (eqb (t.kind i) 82) 1 _ [] (lone-most (set-lone t s i)) (omega arith))))

  early-none : is_element (t.kind i) ≡ false → (t.kind i ≡ 16 → ⊥) → (t.kind i ≡ 85 → ⊥) → (t.kind i ≡ 82 → ⊥)
      → length (early t s i) ≡ 0
  unfolding early
  early-none e a b c = rw (e, ne_eqb (t.kind i) 16 a, ne_eqb (t.kind i) 85 b, ne_eqb (t.kind i) 82 c)

  -- no E3009 where it is no element with a name and a Map
  late-none : is_keyed t i ≡ false → length (late t s i) ≡ 0
  unfolding late
  late-none e = rw e

  not-keyed : is_element (t.kind i) ≡ false → is_keyed t i ≡ false
  not-keyed e = rw e

module _ (t : Tree) (s : Schema) (ok : Shaped t) where
  -- ---- how many items the tokens from a up to b have
  items : ℕ → List Item
  items j = early t s j ++ late t s j

  abbrev count : ℕ → ℕ → ℕ
  count a b = length (over items a b)

  count-join : (a b c : ℕ) → a ≤ b → b ≤ c → count a c ≡ count a b + count b c
  count-join a b c p q = ap length (sym (over-join items a b c p q)) ∙ length-append (over items a b) (over items b c)

  count_none : (a : ℕ) → count a a ≡ 0
  count_none a = ap length (over_none items a a (omega arith))

  count-one : (a : ℕ) → count a (suc a) ≡ length (early t s a) + length (late t s a)
  unfolding items
  count-one a = ap length (over-one items a) ∙ length-append (early t s a) (late t s a)

  -- ---- leaves have none
  plain : (j : ℕ) → is_element (t.kind j) ≡ false → (t.kind j ≡ 16 → ⊥) → (t.kind j ≡ 85 → ⊥) → (t.kind j ≡ 82 → ⊥)
      → count j (suc j) ≡ 0
  plain j e a b c = omega (arith, count-one j, early-none t s j e a b c, late-none t s j (not-keyed t s j e))

  leaf-plain : (j : ℕ) → Leaf t j → count j (suc j) ≡ 0
  leaf-plain j h = ⊎_elim
      (λ e. plain j (not-element (t.kind j) (λ z. omega arith) (λ z. omega arith)) (λ z. omega arith)
      (λ z. omega arith) (λ z. omega arith))
      (λ e. plain j (not-element (t.kind j) (λ z. omega arith) (λ z. omega arith)) (λ z. omega arith)
      (λ z. omega arith) (λ z. omega arith)) h

  there : (j : ℕ) → 1 ≤ t.kind j → j < t.size
  there j h = ⊎_elim (λ p. p) (λ p. absurd (omega (arith, ok.rooted.outside j p))) (below j t.size)

  leaf-end : (j : ℕ) → Leaf t j → end t j ≡ suc j
  leaf-end j h = end-node t j (there j (⊎_elim (λ e. omega arith) (λ e. omega arith) h)) ∙ rw (ok.leaf j h)
      (past-none t (suc j))

  leaves-end : (m q : ℕ) → ((c : ℕ) → c < m → Leaf t (past t c q)) → (past t m q ≡ q + m) × (count q (q + m) ≡ 0)
  leaves-end zero q h = (past-none t q ∙ sym (add-zero q), rw add-zero (count_none q))
  leaves-end (suc m) q h =
      let r = leaves-end m q (λ c b. h c (omega arith)) in
      let l : Leaf t (q + m) = subst (λ (z : ℕ). Leaf t z) r.0 (h m (omega arith)) in
      let e : q + suc m ≡ suc (q + m) = omega arith in (
        past-suc t m q ∙ rw r.0 (leaf-end (q + m) l) ∙ sym e,
        rw e (count-join q (q + m) (suc (q + m)) (omega arith) (omega arith) ∙ omega
            (arith, r.1, leaf-plain (q + m) l)),
      )

  -- ---- a tree has no more items than tokens
  abbrev Bound : ℕ → Type 0
  Bound j = count j (end t j) + j ≤ end t j

  -- by the number l of tokens below: what holds of each tree below holds of several in a row, and of the pairs of a
  -- Map, with one item more for each key
  module _ (l : ℕ) (ih : (j : ℕ) → t.size ≤ j + l → j < t.size → Bound j) where
    forest : (n q : ℕ) → t.size ≤ q + l → count q (past t n q) + q ≤ past t n q
    forest zero q h = rw (past-none t q, count_none q) (omega arith)
    forest (suc n) q h =
        let r = forest n q h in
        let g = past-ge t n q in
        rw (past-suc t n q)
        (⊎_elim
        (λ (b : past t n q < t.size). rw (count-join q (past t n q) (end t (past t n q)) g
        (past-ge t 1 (past t n q))) (omega (arith, ih (past t n q) (omega arith) b, r)))
        (λ b. rw (past-out t 1 (past t n q) b) r)
        (below (past t n q) t.size))

    map-forest : (m q : ℕ) → t.size ≤ q + l → ((k : ℕ) → k < m → t.kind (past t (2 * k) q) ≡ 50) → count q
        (past t (2 * m) q) + m + q ≤ past t (2 * m) q
    map-forest zero q h f = rw (past-none t q, count_none q) (omega arith)
    map-forest (suc m) q h f =
        let r = past t (2 * m) q in
        let i = map-forest m q h (λ k b. f k (omega arith)) in
        let k : Leaf t r = inl (f m (omega arith)) in
        let e : 2 * suc m ≡ 2 * m + 2 = omega arith in
        let p : past t (2 * suc m) q ≡ past t 1 (suc r) =
        ap (λ (z : ℕ). past t z q) e ∙ past-add t (2 * m) 2 q ∙ past-suc t 1 r ∙ ap (λ (z : ℕ). past t 1 z)
        (leaf-end r k) in
        let g = past-ge t (2 * m) q in
        let u = past-ge t 1 (suc r) in
        rw p (omega (
          arith,
          count-join q r (past t 1 (suc r)) g (omega arith),
          count-join r (suc r) (past t 1 (suc r)) (omega arith) u,
          leaf-plain r k,
          i,
          forest 1 (suc r) (omega arith),
        ))

    other-bound : (i : ℕ) → t.size ≤ suc i + l → i < t.size → is_element (t.kind i) ≡ false → Bound i
    other-bound i h b e =
        let g = past-ge t (arity (t.kind i) (t.value i)) (suc i) in
        rw (end-node t i b) (omega (
          arith,
          count-join i (suc i) (child t i (arity (t.kind i) (t.value i))) (omega arith) g,
          forest (arity (t.kind i) (t.value i)) (suc i) h,
          count-one i,
          early-other t s i e,
          late-none t s i (not-keyed t s i e),
        ))

    -- an element ends where its properties, if any, do
    module _ (i : ℕ) (b : i < t.size) (e : is_element (t.kind i) ≡ true) where
      before : suc i + (2 + t.value i / 2) ≡ props_of t i
      before = omega arith

      element-end : end t i ≡ past t (t.value i % 2) (props_of t i)
      element-end =
          let r = leaves-end (2 + t.value i / 2) (suc i) (λ c p. ok.leaves i c e p) in
          end-node t i b ∙ ap (λ (z : ℕ). past t z (suc i)) (ok.element i e)
          ∙ past-add t (2 + t.value i / 2) (t.value i % 2) (suc i) ∙ ap (λ (z : ℕ). past t (t.value i % 2) z)
          (r.0 ∙ before)

      element-count : count i (end t i) ≡ length (early t s i) + length (late t s i) + count (props_of t i) (end t i)
      element-count =
          let r = leaves-end (2 + t.value i / 2) (suc i) (λ c p. ok.leaves i c e p) in
          let z : count (suc i) (props_of t i) ≡ 0 = ap (count (suc i)) (sym before) ∙ r.1 in
          let g : props_of t i ≤ end t i = rw element-end (past-ge t (t.value i % 2) (props_of t i)) in
          omega (
            arith,
            count-join i (suc i) (end t i) (omega arith) (omega arith),
            count-join (suc i) (props_of t i)
                (end t i) (omega arith) g,
            count-one i,
          )

      plain-bound : t.size ≤ suc i + l → is_keyed t i ≡ false → Bound i
      plain-bound h k =
          let u : length (early t s i) ≤ t.value i / 2 + 1 + 0 = rw k at (early-element t s i e) in
          rw element-count (rw element-end (omega (
            arith,
            forest (t.value i % 2) (props_of t i) (omega arith),
            late-none t s i k,
          )))

      keyed-bound : t.size ≤ suc i + l → is_keyed t i ≡ true → Bound i
      keyed-bound h k =
          let a = both_true (is_element (t.kind i)) _ k in
          let c = both_true (leb 1 (t.value i / 2)) (has_map t i) a.1 in
          let m = both_true (eqb (t.value i % 2) 1) (eqb (t.kind (props_of t i)) 14) c.1 in
          let p = props_of t i in
          let one : t.value i % 2 ≡ 1 = eqb-true _ _ m.0 in
          let map : t.kind p ≡ 14 = eqb-true _ _ m.1 in
          let d : end t i ≡ past t (2 * t.value p) (suc p) =
          element-end ∙ ap (λ (z : ℕ). past t z p) one ∙ end-node t p (there p (omega arith)) ∙ ap
          (λ (z : ℕ). past t z (suc p)) (ok.pairs_of p map) in
          let u : length (early t s i) ≤ t.value i / 2 + 1 + t.value p = rw k at (early-element t s i e) in
          let g = past-ge t (2 * t.value p) (suc p) in
          rw element-count (rw d (omega (
            arith,
            map-forest (t.value p) (suc p) (omega arith) (λ n q. ok.keys-of p n map q),
            count-join p (suc p) (past t (2 * t.value p) (suc p)) (omega arith) g,
            plain p (not-element (t.kind p) (λ z. omega arith) (λ z. omega arith)) (λ z. omega arith)
                (λ z. omega arith) (λ z. omega arith),
            lone-most (late-lone t s i),
          )))

    tree-bound : (i : ℕ) → t.size ≤ suc i + l → i < t.size → Bound i
    tree-bound i h b = go (is_element (t.kind i)) refl (is_keyed t i) refl
      where
        go : (x : Bool) → is_element (t.kind i) ≡ x → (y : Bool) → is_keyed t i ≡ y → Bound i
        go true e true k = keyed-bound i b e h k
        go true e false k = plain-bound i b e h k
        go false e y k = other-bound i h b e

  bounded : (l j : ℕ) → t.size ≤ j + l → j < t.size → Bound j
  bounded zero j h b = absurd (omega arith)
  bounded (suc l) j h b = tree-bound l (λ i p q. bounded l i p q) j (omega arith) b

  -- ---- the list has as many items as the tokens of all clauses together
  clause-count : (c : ℕ) → length (clause_items t s c) ≡ count c (end t c)
  unfolding clause_items items
  clause-count c = length-append (over (early t s) c (end t c)) (over (late t s) c (end t c)) ∙ over-lengths
      (early t s) (late t s) c (end t c)

  listed-count : (a m : ℕ) → length (each_from (λ c. clause_items t s (child t 0 c)) a m) + count 1 (past t a 1) ≡ count 1
      (past t (a + m) 1)
  unfolding each table
  listed-count a zero = rw add-zero (zero-add _)
  listed-count a (suc m) =
      let e : a + suc m ≡ suc a + m = omega arith in
      let p : count 1 (past t (suc a) 1) ≡ count 1 (end t (past t a 1)) = ap (count 1) (past-suc t a 1) in
      rw e (omega (
        arith,
        length-append (clause_items t s (child t 0 a)) (each_from (λ c. clause_items t s (child t 0 c)) (suc a) m),
        clause-count (child t 0 a),
        listed-count (suc a) m,
        count-join 1 (past t a 1) (end t (past t a 1)) (past-ge t a 1) (past-ge t 1 (past t a 1)),
        p,
      ))

  -- no more items than tokens
  pub list-few : length (listed t s) ≤ t.size
  unfolding listed
  list-few =
      let n : count 1 (past t 0 1) ≡ 0 = ap (count 1) (past-none t 1) ∙ count_none 1 in
      let c : count 1 (past t (0 + t.value 0) 1) ≡ count 1 t.size = ap (count 1)
      (ap (λ (z : ℕ). past t z 1) (zero-add (t.value 0)) ∙ ok.rooted.covers) in
      let f : count 1 t.size + 1 ≤ t.size =
      subst (λ (z : ℕ). count 1 z + 1 ≤ z) ok.rooted.covers
      (forest t.size (λ i p b. bounded t.size i p b) (t.value 0) 1 (omega arith)) in
      let z : t.value 0 - 0 ≡ t.value 0 = omega arith in
      rw z (omega (arith, listed-count 0 (t.value 0)))
