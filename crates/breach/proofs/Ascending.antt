-- The list of a clause is strictly ascending: every E3009 last; then owner, stage, ordinal.
use mathlib.Core.Bool.{Bool, true, false}
use mathlib.Core.Logic.{⊎_elim, inl, inr}
use mathlib.Core.Path.{◌≡◌, refl, sym, subst}
use mathlib.Core.List.Memᴰ
use mathlib.Core.List.{List, [], ◌∷◌, ◌++◌, Memᴰ}
use Prim.Native.Nat.{ℕ, zero, suc, ◌+◌, ◌-◌, ◌/◌, ◌≤◌, ◌<◌}
use native.Mathlib.Omega.{arith}
use lib.Dec.{eqb}
use Rattle.lists.specs.Lists.{pick, over}
use Rattle.lists.proofs.Tests.{below}
use Rattle.lists.proofs.Laws.{each_from, over_none, over-one, over-join, over-mem, pick-mem, test-mem}
use Rattle.grammar.specs.Tree.{Tree, end}
use Rattle.provider.specs.Schema.{Schema}
use Rattle.breach.specs.Breach.{Item, is_element, props_of}
use Rattle.breach.specs.Listing.{name_item, node_item, key_item, is_keyed, element_items, early, late, clause_items}
use Rattle.breach.specs.Order.{key, Precedes, Ascending}
use Rattle.breach.proofs.Items.{Lone, no_item, one_item, lone-key, name-lone, function-lone, procedure-lone, node-lone, set-lone, key-lone, late-lone}

-- ---- ascending lists, by any order
module _ (by : Item → List ℕ) where
  -- one list behind another
  pub asc-append : (xs ys : List Item) → Ascending by xs → Ascending by ys
      → ((x y : Item) → Memᴰ x xs → Memᴰ y ys → Precedes (by x) (by y)) → Ascending by (xs ++ ys)
  asc-append [] ys a b h = b
  asc-append (x ∷ xs) ys a b h = (
    (λ y m. ⊎_elim (λ p. a.0 y p) (λ p. h x y (Memᴰ.head refl) p) (Memᴰ.append_cases xs m)),
    asc-append xs ys a.1 b (λ u v p q. h u v (Memᴰ.tail p) q),
  )

  asc-pick : (b : Bool) (l m : List Item) → Ascending by l → Ascending by m → Ascending by (pick b l m)
  asc-pick true l m p q = p
  asc-pick false l m p q = q

  -- the lists of the numbers of a range, one behind another
  module _ (f : ℕ → List Item) where
    asc-run : (m a b : ℕ) → a + m ≡ b → ((j : ℕ) → a ≤ j → j < b → Ascending by (f j))
        → ((i j : ℕ) (x y : Item) → a ≤ i → i < j → j < b → Memᴰ x (f i) → Memᴰ y (f j) → Precedes (by x)
        (by y)) → Ascending by (over f a b)
    asc-run zero a b e g h =
        let z : b ≡ a = omega arith in
        subst (λ (n : ℕ). Ascending by (over f a n)) (sym z) (rw (over_none f a a (omega arith)) tt)
    asc-run (suc m) a b e g h =
        subst (Ascending by) (over-join f a (suc a) b (omega arith) (omega arith))
        (rw (over-one f a)
        (asc-append (f a) (over f (suc a) b) (g a (omega arith) (omega arith))
        (asc-run m (suc a) b (omega arith) (λ j p q. g j (omega arith) q)
        (λ i j x y p q r. h i j x y (omega arith) q r))
        (λ x y p q. let r = over-mem f (suc a) b q in h a r.0 x y (omega arith) r.1 r.2 p r.3)))

    pub asc-over : (a b : ℕ) → ((j : ℕ) → a ≤ j → j < b → Ascending by (f j))
        → ((i j : ℕ) (x y : Item) → a ≤ i → i < j → j < b → Memᴰ x (f i) → Memᴰ y (f j) → Precedes (by x)
        (by y)) → Ascending by (over f a b)
    asc-over a b g h = ⊎_elim
        (λ l. asc-run (b - a) a b (omega arith) g h)
        (λ l. let z : b - a ≡ a - a = omega arith in subst (λ (n : ℕ). Ascending by (each_from f a n)) (sym z)
        (rw (over_none f a a (omega arith)) tt))
        (below a b)

lone-asc : {k : List ℕ} {l : List Item} → Lone k l → Ascending key l
lone-asc no_item = tt
lone-asc (one_item e) = ((λ y m. absurd (Memᴰ.not-nil m)), tt)

keys-less : (x y : Item) {ks ls : List ℕ} → key x ≡ ks → key y ≡ ls → Precedes ks ls → Precedes (key x) (key y)
keys-less x y {ks} {ls} p q h = subst (λ (z : List ℕ). Precedes z (key y)) (sym p)
    (subst (λ (z : List ℕ). Precedes ks z) (sym q) h)

-- ---- the lists of token i
module _ (t : Tree) (s : Schema) (i : ℕ) where
  name-key : {x : Item} → Memᴰ x (over (name_item t s i) 0 (t.value i / 2)) → (j : ℕ)
      × (key x ≡ 0 ∷ i ∷ 0 ∷ j ∷ [])
  name-key h = let r = over-mem (name_item t s i) 0 (t.value i / 2) h in
      (r.0, lone-key (name-lone t s i r.0) r.3)

  key-key : {x : Item} → Memᴰ x (pick (is_keyed t i) (over (key_item t s i) 0 (t.value (props_of t i))) [])
      → (j : ℕ) × (key x ≡ 0 ∷ i ∷ 2 ∷ j ∷ [])
  key-key h =
      let r = over-mem (key_item t s i) 0 (t.value (props_of t i)) (test-mem (is_keyed t i) _ h).1 in
      (r.0, lone-key (key-lone t s i r.0) r.3)

  -- before the E3009s, of the owner i
  early-key : {x : Item} → Memᴰ x (early t s i) → (a b : ℕ) × (key x ≡ 0 ∷ i ∷ a ∷ b ∷ [])
  unfolding early element_items
  early-key h = ⊎_elim
      (λ p. ⊎_elim
      (λ q. ⊎_elim
      (λ r. let u = name-key r in (0, u.0, u.1))
      (λ r. (1, 0, lone-key (node-lone t s i) r))
      (Memᴰ.append_cases (over (name_item t s i) 0 (t.value i / 2)) q))
      (λ q. let u = key-key q in (2, u.0, u.1))
      (Memᴰ.append_cases (over (name_item t s i) 0 (t.value i / 2) ++ node_item t s i) p.1))
      (λ p. ⊎_elim
      (λ q. (0, 0, lone-key (function-lone t s i) q.1))
      (λ q. ⊎_elim
      (λ r. (0, 0, lone-key (procedure-lone t s i) r.1))
      (λ r. (1, 0, lone-key (set-lone t s i) (test-mem (eqb (t.kind i) 82) _ r.1).1))
      (pick-mem (eqb (t.kind i) 85) _ _ q.1))
      (pick-mem (eqb (t.kind i) 16) _ _ p.1))
      (pick-mem (is_element (t.kind i)) _ _ h)

  names-asc : Ascending key (over (name_item t s i) 0 (t.value i / 2))
  names-asc = asc-over key (name_item t s i) 0 (t.value i / 2) (λ j a b. lone-asc (name-lone t s i j))
      (λ j k x y a h b p q. keys-less x y (lone-key (name-lone t s i j) p) (lone-key (name-lone t s i k) q)
      (inr (refl, inr (refl, inr (refl, inl (omega arith))))))

  keys-asc : Ascending key (over (key_item t s i) 0 (t.value (props_of t i)))
  keys-asc = asc-over key (key_item t s i) 0 (t.value (props_of t i)) (λ j a b. lone-asc (key-lone t s i j))
      (λ j k x y a h b p q. keys-less x y (lone-key (key-lone t s i j) p) (lone-key (key-lone t s i k) q)
      (inr (refl, inr (refl, inr (refl, inl (omega arith))))))

  element-asc : Ascending key (element_items t s i)
  unfolding element_items
  element-asc = asc-append key (over (name_item t s i) 0 (t.value i / 2) ++ node_item t s i)
      (pick (is_keyed t i) (over (key_item t s i) 0 (t.value (props_of t i))) [])
      (asc-append key (over (name_item t s i) 0 (t.value i / 2)) (node_item t s i) names-asc (lone-asc (node-lone t s i))
      (λ x y p q. keys-less x y (name-key p).1 (lone-key (node-lone t s i) q)
      (inr (refl, inr (refl, inl (omega arith))))))
      (asc-pick key (is_keyed t i) _ [] keys-asc tt)
      (λ x y p q. ⊎_elim
      (λ r. keys-less x y (name-key r).1 (key-key q).1 (inr (refl, inr (refl, inl (omega arith)))))
      (λ r. keys-less x y (lone-key (node-lone t s i) r) (key-key q).1 (inr (refl, inr (refl, inl (omega arith)))))
      (Memᴰ.append_cases (over (name_item t s i) 0 (t.value i / 2)) p))

  early-asc : Ascending key (early t s i)
  unfolding early
  early-asc =
      asc-pick key (is_element (t.kind i)) _ _ element-asc
      (asc-pick key (eqb (t.kind i) 16) _ _ (lone-asc (function-lone t s i))
      (asc-pick key (eqb (t.kind i) 85) _ _ (lone-asc (procedure-lone t s i))
      (asc-pick key (eqb (t.kind i) 82) _ [] (lone-asc (set-lone t s i)) tt)))

pub clause-ascending : (t : Tree) (s : Schema) (c : ℕ) → Ascending key (clause_items t s c)
unfolding clause_items
clause-ascending t s c = asc-append key (over (early t s) c (end t c)) (over (late t s) c (end t c))
    (asc-over key (early t s) c (end t c) (λ j a b. early-asc t s j)
    (λ i j x y a h b p q. keys-less x y (early-key t s i p).2 (early-key t s j q).2 (inr (refl, inl (omega arith)))))
    (asc-over key (late t s) c (end t c) (λ j a b. lone-asc (late-lone t s j))
    (λ i j x y a h b p q. keys-less x y (lone-key (late-lone t s i) p) (lone-key (late-lone t s j) q)
    (inr (refl, inl (omega arith)))))
    (λ x y p q.
    let u = over-mem (early t s) c (end t c) p in
    let v = over-mem (late t s) c (end t c) q in
    keys-less x y (early-key t s u.0 u.3).2 (lone-key (late-lone t s v.0) v.3) (inl (omega arith)))
