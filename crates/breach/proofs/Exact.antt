-- The list of a clause is exactly the set of the breaches of its tokens.
use mathlib.Core.Bool.{Bool, true, false, not}
use mathlib.Core.Logic.{⊎_elim, ◌⊎◌, ◌↔◌, inl, inr}
use mathlib.Core.Path.{◌≡◌, refl, sym, subst}
use mathlib.Core.List.{[], ◌∷◌, ◌++◌, Memᴰ}
use Prim.Native.Nat.{ℕ, ◌+◌, ◌/◌, ◌<◌, ◌≤◌}
use native.Mathlib.Omega.{arith}
use borrow.Author.Tests.{eq-eqb, ne_eqb, eqb-true, le-leb, leb-true, not-true}
use lib.Dec.{eqb}
use Rattle.lists.specs.Lists.{both, over, any_of}
use Rattle.lists.proofs.Tests.{both_true, true-both, false-not}
use Rattle.lists.proofs.Laws.{over-mem, mem-over, pick-mem, test-mem, mem-then, mem-else}
use Rattle.grammar.specs.Tree.{Tree, end}
use Rattle.rules.proofs.Rows.{taken-by}
use Rattle.types.specs.declared.Ty.{Ty}
use Rattle.types.specs.Types.{types_compatible}
use Rattle.provider.specs.Schema.{Schema, Property, Signature, is_declared, tuples_of, function_of, procedure_of}
use Rattle.breach.specs.Breach.{Item, item_at, spanless, is_element, names_of, props_of, owners, holder, bad_count, Breach, unknown_label, unknown_rel_type, unknown_function, function_arity, unknown_procedure, procedure_arity, apart_node, apart_set, undeclared_key, wrong_type, unbacked}
use Rattle.breach.specs.Listing.{when, name_item, call_item, node_item, set_item, key_judged, key_item, is_keyed, element_items, early, keyless, late, clause_items}
use Rattle.std.specs.Prelude.{Some, None}
use Rattle.std.specs.Prelude.{Option}

-- ---- elements are Nodes and Rels
pub element-cases : (k : ℕ) → is_element k ≡ true → (k ≡ 62) ⊎ (k ≡ 63)
element-cases k h = taken-by (λ (n : ℕ). (n ≡ 62) ⊎ (n ≡ 63)) (62 ∷ 63 ∷ []) k h (inl refl, (inr refl, tt))

pub node : (k : ℕ) → k ≡ 62 → is_element k ≡ true
unfolding any_of
node k e = rw e

pub rel : (k : ℕ) → k ≡ 63 → is_element k ≡ true
unfolding any_of
rel k e = rw e

pub not-element : (k : ℕ) → (k ≡ 62 → ⊥) → (k ≡ 63 → ⊥) → is_element k ≡ false
unfolding any_of
not-element k p q = rw (ne_eqb k 62 p, ne_eqb k 63 q)

-- ---- an item behind a test, a Call's judgement, a key's
when-mem : {x y : Item} (b : Bool) → Memᴰ x (when b y) → (b ≡ true) × (x ≡ y)
when-mem true h = (refl, mathlib.Core.List.Memᴰ.eq_of_singleton h)
when-mem false h = absurd (mathlib.Core.List.Memᴰ.not-nil h)

mem-when : (y : Item) (b : Bool) → b ≡ true → Memᴰ y (when b y)
mem-when y b e = subst (λ (z : Bool). Memᴰ y (when z y)) (sym e) (mathlib.Core.List.Memᴰ.head refl)

call-mem : {x u w : Item} (f : Option Signature) (n : ℕ) → Memᴰ x (call_item f n u w)
    → ((f ≡ None) × (x ≡ u)) ⊎ ((g : Signature) × (f ≡ Some g) × (bad_count g n ≡ true) × (x ≡ w))
call-mem None n h = inl (refl, mathlib.Core.List.Memᴰ.eq_of_singleton h)
call-mem (Some g) n h = let r = when-mem (bad_count g n) h in inr (g, refl, r.0, r.1)

judged-mem : {x u w : Item} (p : Option Property) (l : Option Ty) → Memᴰ x (key_judged p l u w)
    → ((p ≡ None) × (x ≡ u)) ⊎ ((q : Property) × (a : Ty) × (p ≡ Some q) × (l ≡ Some a)
    × (types_compatible a q.type ≡ false) × (x ≡ w))
judged-mem None l h = inl (refl, mathlib.Core.List.Memᴰ.eq_of_singleton h)
judged-mem (Some q) None h = absurd (mathlib.Core.List.Memᴰ.not-nil h)
judged-mem (Some q) (Some a) h = let r = when-mem (not (types_compatible a q.type)) h in inr
    (q, a, refl, refl, not-true _ r.0, r.1)

module _ (t : Tree) (s : Schema) (i : ℕ) where
  -- ---- an item in one of the two lists of token i is a breach of it
  to_item : {x y : Item} → x ≡ y → Breach t s i y → Breach t s i x
  to_item {x} {y} e b = subst (λ (z : Item). Breach t s i z) (sym e) b

  name-breach : {x : Item} (j : ℕ) → is_element (t.kind i) ≡ true → j < t.value i / 2 → Memᴰ x
      (name_item t s i j) → Breach t s i x
  unfolding name_item
  name-breach {x} j e b h = ⊎_elim
      (λ k. let m : Memᴰ x (when (not (is_declared s.labels (t.text (i + 3 + j)))) (item_at t i 3001 0 j)) = rw k
      at h in
      let r = when-mem _ m in to_item r.1 (unknown_label j k b (not-true _ r.0)))
      (λ k. let m : Memᴰ x (when (not (is_declared s.rel_types (t.text (i + 3 + j)))) (item_at t i 3002 0 j)) = rw
      k at h in
      let r = when-mem _ m in to_item r.1 (unknown_rel_type j k b (not-true _ r.0)))
      (element-cases (t.kind i) e)

  node-breach : {x : Item} → Memᴰ x (node_item t s i) → Breach t s i x
  unfolding node_item
  node-breach h =
      let r = when-mem _ h in
      let a = both_true _ _ r.0 in
      let b = both_true _ _ a.1 in
      let c = both_true _ _ b.1 in
      to_item r.1 (apart_node (eqb-true _ _ a.0) b.0 (leb-true _ _ c.0) c.1)

  key-breach : {x : Item} (j : ℕ) → is_keyed t i ≡ true → j < t.value (props_of t i) → Memᴰ x (key_item t s i j)
      → Breach t s i x
  unfolding key_item
  key-breach j k b h =
      let a = both_true _ _ k in
      let c = both_true _ _ a.1 in
      ⊎_elim
      (λ r. to_item r.1 (undeclared_key j a.0 (leb-true _ _ c.0) c.1 b r.0))
      (λ r. to_item r.5 (wrong_type j r.0 r.1 a.0 (leb-true _ _ c.0) c.1 b r.2 r.3 r.4))
      (judged-mem _ _ h)

  element-breach : {x : Item} → is_element (t.kind i) ≡ true → Memᴰ x (element_items t s i) → Breach t s i x
  unfolding element_items
  element-breach {x} e h = ⊎_elim
      (λ q. ⊎_elim
      (λ p. let r = over-mem (name_item t s i) 0 (t.value i / 2) p in name-breach r.0 e r.2 r.3)
      node-breach
      (mathlib.Core.List.Memᴰ.append_cases (over (name_item t s i) 0 (t.value i / 2)) q))
      (λ p. let k = test-mem (is_keyed t i) _ p in
      let r = over-mem (key_item t s i) 0 (t.value (props_of t i)) k.1 in key-breach r.0 k.0 r.2 r.3)
      (mathlib.Core.List.Memᴰ.append_cases (over (name_item t s i) 0 (t.value i / 2) ++ node_item t s i) h)

  set-breach : {x : Item} → t.kind i ≡ 82 → Memᴰ x (set_item t s i) → Breach t s i x
  unfolding set_item
  set-breach k h =
      let r = when-mem _ h in
      let a = both_true _ _ r.0 in
      to_item r.1 (apart_set k (leb-true _ _ a.0) a.1)

  early-breach : {x : Item} → Memᴰ x (early t s i) → Breach t s i x
  unfolding early
  early-breach h = ⊎_elim (λ p. element-breach p.0 p.1)
      (λ p. ⊎_elim
      (λ q. let k = eqb-true _ _ q.0 in ⊎_elim (λ r. to_item r.1 (unknown_function k r.0))
      (λ r. to_item r.3 (function_arity r.0 k r.1 r.2)) (call-mem _ _ q.1))
      (λ q. ⊎_elim
      (λ u. let k = eqb-true _ _ u.0 in ⊎_elim (λ r. to_item r.1 (unknown_procedure k r.0))
      (λ r. to_item r.3 (procedure_arity r.0 k r.1 r.2)) (call-mem _ _ u.1))
      (λ u. let v = test-mem (eqb (t.kind i) 82) _ u.1 in set-breach (eqb-true _ _ v.0) v.1)
      (pick-mem (eqb (t.kind i) 85) _ _ q.1))
      (pick-mem (eqb (t.kind i) 16) _ _ p.1))
      (pick-mem (is_element (t.kind i)) _ _ h)

  late-breach : {x : Item} → Memᴰ x (late t s i) → Breach t s i x
  unfolding late keyless
  late-breach h =
      let r = test-mem (both (is_keyed t i) (eqb (holder t i) 72))
      (keyless t s i (tuples_of (owners s (t.kind i)) (names_of t i))) h in
      let a = both_true (is_keyed t i) (eqb (holder t i) 72) r.0 in
      let b = both_true _ _ a.0 in
      let c = both_true _ _ b.1 in
      let w = when-mem _ r.1 in
      let d = both_true _ _ w.0 in
      to_item w.1 (unbacked b.0 (eqb-true _ _ a.1) (leb-true _ _ c.0) c.1 (not-true _ d.0)
      (not-true _ d.1))

  -- ---- a breach of token i is in one of its two lists
  name-mem : (x : Item) (j : ℕ) → is_element (t.kind i) ≡ true → j < t.value i / 2 → Memᴰ x (name_item t s i j)
      → Memᴰ x (early t s i)
  unfolding early element_items
  name-mem x j e b h =
      mem-then _ _ _ e (mathlib.Core.List.Memᴰ.append_left _ (mathlib.Core.List.Memᴰ.append_left _
      (mem-over (name_item t s i) 0 (t.value i / 2) j (omega arith) b h)))

  key-mem : (x : Item) (j : ℕ) → is_keyed t i ≡ true → j < t.value (props_of t i) → Memᴰ x (key_item t s i j)
      → Memᴰ x (early t s i)
  unfolding early element_items
  key-mem x j k b h =
      let a = both_true (is_element (t.kind i)) _ k in
      mem-then (is_element (t.kind i)) _ _ a.0
      (mathlib.Core.List.Memᴰ.append_right (over (name_item t s i) 0 (t.value i / 2) ++ node_item t s i)
      (mem-then (is_keyed t i) _ [] k (mem-over (key_item t s i) 0 (t.value (props_of t i)) j (omega arith) b h)))

  call_at : (x : Item) → t.kind i ≡ 16 → Memᴰ x (call_item (function_of s (t.text (i + 1)))
      (t.value i) (spanless t i 3006 0) (spanless t i 3007 0))
      → Memᴰ x (early t s i)
  unfolding early
  call_at x k h = mem-else _ _ _ (not-element _ (λ e. omega arith) (λ e. omega arith)) (mem-then _ _ _ (eq-eqb _ _ k) h)

  clause-call-at : (x : Item) → t.kind i ≡ 85 → Memᴰ x
      (call_item (procedure_of s (t.text (i + 3))) (t.value i) (item_at t i 3008 0 0)
      (item_at t i 3007 0 0))
      → Memᴰ x (early t s i)
  unfolding early
  clause-call-at x k h =
      mem-else _ _ _ (not-element _ (λ e. omega arith) (λ e. omega arith))
      (mem-else (eqb (t.kind i) 16) _ _ (ne_eqb (t.kind i) 16 (λ e. omega arith))
      (mem-then (eqb (t.kind i) 85) _ _ (eq-eqb _ _ k) h))

  set_at : (x : Item) → t.kind i ≡ 82 → Memᴰ x (set_item t s i) → Memᴰ x (early t s i)
  unfolding early
  set_at x k h =
      mem-else _ _ _ (not-element _ (λ e. omega arith) (λ e. omega arith))
      (mem-else (eqb (t.kind i) 16) _ _ (ne_eqb (t.kind i) 16 (λ e. omega arith))
      (mem-else (eqb (t.kind i) 85) _ _ (ne_eqb (t.kind i) 85 (λ e. omega arith))
      (mem-then (eqb (t.kind i) 82) _ [] (eq-eqb _ _ k) h)))

  early-or-late : {x : Item} → Breach t s i x → Memᴰ x (early t s i) ⊎ Memᴰ x (late t s i)
  unfolding early late element_items name_item node_item set_item key_item keyless
  early-or-late (unknown_label j k b d) =
      inl (name-mem _ j (node _ k) b (rw k (mem-when _ _ (false-not d))))
  early-or-late (unknown_rel_type j k b d) =
      inl (name-mem _ j (rel _ k) b (rw k (mem-when _ _ (false-not d))))
  early-or-late (unknown_function k f) = inl (call_at _ k (rw f (mathlib.Core.List.Memᴰ.head refl)))
  early-or-late (function_arity g k f c) = inl (call_at _ k (rw f (mem-when _ _ c)))
  early-or-late (unknown_procedure k f) = inl (clause-call-at _ k (rw f (mathlib.Core.List.Memᴰ.head refl)))
  early-or-late (procedure_arity g k f c) = inl (clause-call-at _ k (rw f (mem-when _ _ c)))
  early-or-late (apart_node k h n a) =
      inl (mem-then _ _ _ (node _ k) (mathlib.Core.List.Memᴰ.append_left _ (mathlib.Core.List.Memᴰ.append_right (over (name_item t s i) 0 (t.value i / 2))
      (mem-when _ _ (true-both (eq-eqb _ _ k) (true-both h (true-both (le-leb _ _ n) a)))))))
  early-or-late (apart_set k n a) = inl (set_at _ k (mem-when _ _ (true-both (le-leb _ _ n) a)))
  early-or-late (undeclared_key j e n m b p) =
      inl (key-mem _ j (true-both e (true-both (le-leb _ _ n) m)) b (rw p (mathlib.Core.List.Memᴰ.head refl)))
  early-or-late (wrong_type j p a e n m b q l c) =
      inl (key-mem _ j (true-both e (true-both (le-leb _ _ n) m)) b (rw (q, l) (mem-when _ _ (false-not c))))
  early-or-late (unbacked e h n m u b) =
      inr (mem-then _ _ [] (true-both (true-both e (true-both (le-leb _ _ n) m)) (eq-eqb _ _ h))
      (mem-when _ _ (true-both (false-not u) (false-not b))))

-- an item is in the list of the clause c exactly when it is a breach of one of the clause's tokens
pub clause-exact : (t : Tree) (s : Schema) (c : ℕ) (x : Item) → Memᴰ x (clause_items t s c)
    ↔ ((i : ℕ) × (c ≤ i) × (i < end t c) × Breach t s i x)
unfolding clause_items
clause-exact t s c x = (
  λ h. ⊎_elim
      (λ p. let r = over-mem (early t s) c (end t c) p in (r.0, r.1, r.2, early-breach t s r.0 r.3))
      (λ p. let r = over-mem (late t s) c (end t c) p in (r.0, r.1, r.2, late-breach t s r.0 r.3))
      (mathlib.Core.List.Memᴰ.append_cases (over (early t s) c (end t c)) h),
  λ r. ⊎_elim
      (λ p. mathlib.Core.List.Memᴰ.append_left (over (late t s) c (end t c)) (mem-over (early t s) c (end t c) r.0 r.1 r.2 p))
      (λ p. mathlib.Core.List.Memᴰ.append_right (over (early t s) c (end t c)) (mem-over (late t s) c (end t c) r.0 r.1 r.2 p))
      (early-or-late t s r.0 r.3),
)
