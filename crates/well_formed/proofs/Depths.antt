-- The depth of a token, without a number of steps: `depth-first` and `depth_below`.
use mathlib.Core.Bool.{Bool, true, false}
use mathlib.Core.Logic.{⊎_elim}
use mathlib.Core.Path.{◌≡◌, refl, sym, ap, ◌∙◌}
use Prim.Native.Nat.{ℕ, zero, suc, ◌+◌, ◌≤◌, ◌<◌}
use native.Mathlib.Omega.{arith}
use borrow.Author.Tests.{eq-eqb, ne_eqb}
use lib.Dec.{ltb}
use Rattle.lists.specs.Lists.{pick}
use Rattle.lists.proofs.Tests.{below, pick-false}
use Rattle.grammar.specs.Tree.{Tree, end, enclosing, parent}
use Rattle.well_formed.specs.WellFormed.{climb, depth_of}

pick-le : (test : Bool) (a b m : ℕ) → a ≤ m → b ≤ m → pick test a b ≤ m
pick-le true a b m h g = h
pick-le false a b m h g = g

module _ (t : Tree) where
  -- a token belongs to one before it
  above_before : (i p : ℕ) → enclosing t i (suc p) ≤ p
  unfolding enclosing
  above_before i zero = pick-le (ltb i (end t 0)) 0 0 0 (omega arith) (omega arith)
  above_before i (suc p) =
      pick-le (ltb i (end t (suc p))) (suc p) (enclosing t i (suc p)) (suc p) (omega arith)
      (omega (arith, above_before i p))

  parent-before : (i : ℕ) → 0 < i → parent t i < i
  parent-before zero h = absurd (omega arith)
  parent-before (suc i) h = omega (arith, above_before (suc i) i)

  climb-none : (n i : ℕ) → i ≤ 0 → climb t n i ≡ 0
  unfolding climb
  climb-none zero i h = refl
  climb-none (suc n) i h =
      let z : i ≡ 0 = omega arith in
      rw (eq-eqb i 0 z)

  climb-step : (n i : ℕ) → 0 < i → climb t (suc n) i ≡ climb t n (parent t i) + 1
  unfolding climb
  climb-step n i h = pick-false 0 (climb t n (parent t i) + 1) (ne_eqb i 0 (λ e. omega arith))

  -- as many steps as the token's number, or more, come to the same
  climb-same : (a b i : ℕ) → i ≤ a → i ≤ b → climb t a i ≡ climb t b i
  climb-same zero b i h g = climb-none zero i h ∙ sym (climb-none b i h)
  climb-same (suc a) zero i h g = climb-none (suc a) i g ∙ sym (climb-none zero i g)
  climb-same (suc a) (suc b) i h g = ⊎_elim
      (λ l. let u = parent-before i l in
      climb-step a i l ∙ ap (λ (n : ℕ). n + 1) (climb-same a b (parent t i) (omega arith) (omega arith))
      ∙ sym (climb-step b i l))
      (λ l. climb-none (suc a) i l ∙ sym (climb-none (suc b) i l))
      (below 0 i)

  -- token 0 has depth 0
  pub depth-first : depth_of t 0 ≡ 0
  depth-first = climb-none 0 0 (omega arith)

  -- any other token has one more than the token that it belongs to
  pub depth_below : (i : ℕ) → 0 < i → depth_of t i ≡ depth_of t (parent t i) + 1
  depth_below zero h = absurd (omega arith)
  depth_below (suc i) h =
      let u = parent-before (suc i) h in
      climb-step i (suc i) h
      ∙ ap (λ (n : ℕ). n + 1) (climb-same i (parent t (suc i)) (parent t (suc i)) (omega arith) (omega arith))
