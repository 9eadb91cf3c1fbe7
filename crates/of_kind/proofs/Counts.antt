-- How many tokens of a kind there are.
use mathlib.Core.Path.{◌≡◌, ap, ◌∙◌}
use mathlib.Core.Bool.{Bool, true, false}
use mathlib.Core.List.{List, [], ◌∷◌, ◌++◌}
use Prim.Native.Nat.{ℕ, ◌+◌, ◌-◌, ◌≤◌, ◌<◌}
use native.Mathlib.Omega.{arith}
use borrow.Author.Tests.{eq-eqb, ne_eqb}
use lib.Dec.{eqb}
use lib.ListN.{length}
use Rattle.lists.specs.Lists.{pick, over}
use Rattle.lists.proofs.Laws.{over-more, over_none, over-most}
use Rattle.grammar.specs.Tree.{Tree}
use Rattle.schema.specs.Declarations.{of_kind}

pub not-counted : (n a b : ℕ) → (a ≡ b → ⊥) → n ≡ n + pick {A = ℕ} (eqb a b) 1 0
not-counted n a b h = let e : pick {A = ℕ} (eqb a b) 1 0 ≡ 0 = rw (ne_eqb a b h) in omega arith

pub one-counted : (n a b : ℕ) → a ≡ b → n + 1 ≡ n + pick {A = ℕ} (eqb a b) 1 0
one-counted n a b h = let e : pick {A = ℕ} (eqb a b) 1 0 ≡ 1 = rw (eq-eqb a b h) in omega arith

kind-count : (t : Tree) (k j : ℕ) (rest : List ℕ) → length (of_kind t k j ++ rest) ≡ pick {A = ℕ} (eqb (t.kind j) k) 1
    0 + length rest
kind-count t k j rest = go (eqb (t.kind j) k)
  where
    go : (b : Bool) → length (pick b (j ∷ []) [] ++ rest) ≡ pick {A = ℕ} b 1 0 + length rest
    go true = omega arith
    go false = omega arith

pub few-of : (t : Tree) (k a b : ℕ) → length (over (of_kind t k) a b) ≤ b - a
few-of t k a b = over-most (of_kind t k) a b (λ j. go j (eqb (t.kind j) k))
  where
    go : (j : ℕ) (b : Bool) → length (pick b (j ∷ []) []) ≤ 1
    go j true = omega arith
    go j false = omega arith

module _ (t : Tree) (k j to many x : ℕ) (inv : many + length (over (of_kind t k) j to) ≡ x) where
  pub count_turn : (a n : ℕ) → a ≡ t.kind j → n ≡ many + pick {A = ℕ} (eqb a k) 1 0 → j < to → n + length
      (over (of_kind t k) (j + 1) to) ≡ x
  count_turn a n ea en h =
      let e : length (over (of_kind t k) j to) ≡ pick {A = ℕ} (eqb (t.kind j) k) 1 0 + length
      (over (of_kind t k) (j + 1) to) =
      ap length (over-more (of_kind t k) j to h) ∙ kind-count t k j (over (of_kind t k) (j + 1) to) in
      let g : n ≡ many + pick {A = ℕ} (eqb (t.kind j) k) 1 0 = rw (← ea) en in
      omega (arith, inv, e, g)

  pub count-end : to ≤ j → many ≡ x
  count-end h = omega (arith, inv, ap length (over_none (of_kind t k) j to h))
