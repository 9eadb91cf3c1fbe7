-- Laws of tests.
use mathlib.Core.Path.{◌≡◌, refl}
use mathlib.Core.Bool.{Bool, true, false, not}
use Prim.Native.Nat.{ℕ, ◌≤◌, ◌<◌}
use native.Mathlib.Decide.{dec_lt}
use native.Mathlib.Omega.{arith}
use mathlib.Core.Logic.{◌⊎◌, inl, inr}
use Rattle.lists.specs.Lists.{pick, both, either}

-- a test does not both fail and pass
pub never : {A : Type 0} → ◌≡◌ {A = Bool} false true → A
never e = let z : ◌≡◌ {A = ℕ} 0 1 = cc in absurd (omega arith)

-- both tests pass: the one does, and the other
pub both_true : (a b : Bool) → both a b ≡ true → (a ≡ true) × (b ≡ true)
both_true true b e = (refl, e)
both_true false b e = never e

-- one of two tests passes: the one does, or the other
pub either_true : (a b : Bool) → either a b ≡ true → (a ≡ true) ⊎ (b ≡ true)
either_true true b e = inl refl
either_true false b e = inr e

-- a number is below another, or not
pub below : (a b : ℕ) → (a < b) ⊎ (b ≤ a)
below a b = go (dec_lt a b)
  where
    go : Dec (a < b) → (a < b) ⊎ (b ≤ a)
    go (yes h) = inl h
    go (no h) = inr (omega arith)

pub pick_true : {A : Type 0} {t : Bool} (a b : A) → t ≡ true → pick t a b ≡ a
pick_true a b e = rw e

pub pick-false : {A : Type 0} {t : Bool} (a b : A) → t ≡ false → pick t a b ≡ b
pick-false a b e = rw e

pub true-or-false : (a : Bool) → (a ≡ true) ⊎ (a ≡ false)
true-or-false true = inl refl
true-or-false false = inr refl

-- two tests pass, so both do; a test fails, so its opposite passes
pub true-both : {a b : Bool} → a ≡ true → b ≡ true → both a b ≡ true
true-both p q = rw (p, q)

pub false-not : {a : Bool} → a ≡ false → not a ≡ true
false-not e = rw e
