-- What one test of a breach gives: at most one item, and its place in the order.
use mathlib.Core.Bool.{Bool, true, false, not}
use mathlib.Core.Path.{◌≡◌, refl, ap, ◌∙◌}
use mathlib.Core.List.Memᴰ
use mathlib.Core.List.{List, [], ◌∷◌, Memᴰ}
use Prim.Native.Nat.{ℕ, ◌+◌, ◌/◌, ◌≤◌}
use native.Mathlib.Omega.{arith}
use lib.ListN.{length}
use lib.Dec.{eqb, leb}
use Rattle.lists.specs.Lists.{pick, both, is_one, is_empty}
use Rattle.grammar.specs.Tree.{Tree, texts}
use Rattle.types.specs.Types.{literal, types_compatible}
use Rattle.provider.specs.Schema.{Schema, Property, Signature, is_declared, property_of, tuples_of, function_of, procedure_of, apart_among}
use Rattle.breach.specs.Breach.{Item, item_at, spanless, names_of, key_at, value_at, keys_of, owners, holder, bad_count, backed}
use Rattle.breach.specs.Listing.{when, name_item, call_item, node_item, set_item, key_judged, key_item, is_keyed, keyless, late}
use Rattle.breach.specs.Order.{key}
use Rattle.std.specs.Prelude.{Some, None}
use Rattle.types.specs.declared.Ty.{Ty}
use Rattle.std.specs.Prelude.{Option}

-- ---- at most one item, whose place in the order of a clause is k
pub data Lone (k : List ℕ) : List Item → Type 0 where
  no_item : Lone k []
  one_item : {x : Item} → key x ≡ k → Lone k (x ∷ [])

pub lone-key : {k : List ℕ} {l : List Item} {x : Item} → Lone k l → Memᴰ x l → key x ≡ k
lone-key no_item h = absurd (Memᴰ.not-nil h)
lone-key (one_item e) h = ap key (Memᴰ.eq_of_singleton h) ∙ e

pub lone-most : {k : List ℕ} {l : List Item} → Lone k l → length l ≤ 1
lone-most no_item = omega arith
lone-most (one_item e) = omega arith

when-lone : (b : Bool) (x : Item) → Lone (key x) (when b x)
when-lone true x = one_item refl
when-lone false x = no_item

pick-lone : {k : List ℕ} {l : List Item} (b : Bool) → Lone k l → Lone k (pick b l [])
pick-lone true h = h
pick-lone false h = no_item

call_lone : (f : Option Signature) (n : ℕ) (k : List ℕ) (u w : Item) → key u ≡ k → key w ≡ k → Lone k (call_item f n u w)
call_lone None n k u w p q = one_item p
call_lone (Some g) n k u w p q = rw (← q) (when-lone (bad_count g n) w)

judged-lone : (p : Option Property) (l : Option Ty) (k : List ℕ) (u w : Item) → key u ≡ k → key w ≡ k → Lone k
    (key_judged p l u w)
judged-lone None l k u w a b = one_item a
judged-lone (Some q) None k u w a b = no_item
judged-lone (Some q) (Some c) k u w a b = rw (← b) (when-lone (not (types_compatible c q.type)) w)

-- ---- the lists of token i, each with its test
abbrev name_test : Tree → Schema → ℕ → ℕ → Bool
name_test t s i j = not (is_declared (owners s (t.kind i)) (t.text (i + 3 + j)))

abbrev node_test : Tree → Schema → ℕ → Bool
node_test t s i = both (eqb (t.kind i) 62) (both (is_one (71 ∷ 72 ∷ []) (holder t i))
    (both (leb 2 (t.value i / 2)) (apart_among s (names_of t i))))

abbrev set_test : Tree → Schema → ℕ → Bool
set_test t s i = both (leb 2 (t.value i)) (apart_among s (texts t (i + 1) (t.value i)))

abbrev late_test : List (List (List ℕ)) → List (List ℕ) → Bool
late_test tuples keys = both (not (is_empty tuples)) (not (backed tuples keys))

module _ (t : Tree) (s : Schema) (i : ℕ) where
  -- stage 0, name j of an element; a Call; a clause's Call
  pub name-lone : (j : ℕ) → Lone (0 ∷ i ∷ 0 ∷ j ∷ []) (name_item t s i j)
  unfolding name_item
  name-lone j = when-lone (name_test t s i j) (item_at t i (pick (eqb (t.kind i) 62) 3001 3002) 0 j)

  pub function-lone : Lone (0 ∷ i ∷ 0 ∷ 0 ∷ []) (call_item (function_of s (t.text (i + 1))) (t.value i)
      (spanless t i 3006 0) (spanless t i 3007 0))
  function-lone = call_lone (function_of s (t.text (i + 1))) (t.value i) _ (spanless t i 3006 0)
      (spanless t i 3007 0) refl refl

  pub procedure-lone : Lone (0 ∷ i ∷ 0 ∷ 0 ∷ []) (call_item (procedure_of s (t.text (i + 3)))
      (t.value i) (item_at t i 3008 0 0) (item_at t i 3007 0 0))
  procedure-lone = call_lone (procedure_of s (t.text (i + 3))) (t.value i) _ (item_at t i 3008 0 0)
      (item_at t i 3007 0 0) refl refl

  -- stage 1, a Node; a Set's Labels
  pub node-lone : Lone (0 ∷ i ∷ 1 ∷ 0 ∷ []) (node_item t s i)
  unfolding node_item
  node-lone = when-lone (node_test t s i) (item_at t i 4023 1 0)

  pub set-lone : Lone (0 ∷ i ∷ 1 ∷ 0 ∷ []) (set_item t s i)
  unfolding set_item
  set-lone = when-lone (set_test t s i) (spanless t i 4023 1)

  -- stage 2, key j of an element
  pub key-lone : (j : ℕ) → Lone (0 ∷ i ∷ 2 ∷ j ∷ []) (key_item t s i j)
  unfolding key_item
  key-lone j = judged-lone (property_of (owners s (t.kind i)) (names_of t i) (key_at t i j)) (literal t (value_at t i j))
      _ (item_at t i 3003 2 j) (item_at t i 3004 2 j) refl refl

  -- stage 3
  pub late-lone : Lone (1 ∷ i ∷ 3 ∷ 0 ∷ []) (late t s i)
  unfolding late keyless
  late-lone = pick-lone (both (is_keyed t i) (eqb (holder t i) 72))
      (when-lone (late_test (tuples_of (owners s (t.kind i)) (names_of t i)) (keys_of t i)) (item_at t i 3009 3 0))
