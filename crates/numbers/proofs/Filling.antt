-- The numbers of all names and their marks, name by name.
use mathlib.Core.Path.{◌≡◌, ◌∙◌, refl, ap}
use mathlib.Core.Bool.{Bool}
use mathlib.Core.Logic.{⊎_elim}
use mathlib.Core.List.{List}
use Prim.Native.Nat.{ℕ, ◌+◌, ◌≤◌, ◌<◌}
use native.Mathlib.Omega.{arith}
use lib.ListN.{length, drop, set}
use lib.Seq.{get_or-set_same, get_or-set_other, drop-set-lt}
use Rattle.lists.proofs.Tests.{below}
use Rattle.numbers.specs.Least.{least_same, Numbered}
use Rattle.numbers.specs.Chains.{Heads, Links, HashMarks}
use Rattle.numbers.specs.Alike.{Marked}
use Rattle.numbers.proofs.Chains.{links-none}
use Rattle.numbers.proofs.Alike.{hash-marks-none, marked_all}

-- ---- no number yet, and one more
numbered-none : (ts : List (List ℕ)) (ids : List ℕ) → Numbered ts 0 ids
numbered-none ts ids = record { each = λ j l. absurd (omega arith) }

numbered_more : (ts : List (List ℕ)) (i : ℕ) (ids new : List ℕ) → i < length ids → Numbered ts i ids → new ≡ set ids i (least_same ts i) → Numbered ts (i + 1) new
numbered_more ts i ids new h z e = rw e (record {
  each = λ j l. ⊎_elim
      (λ p. get_or-set_other ids i j (least_same ts i) 0 (λ k. omega arith) ∙ z.each j p)
      (λ p. let k : j ≡ i = omega arith in rw k (get_or-set_same ids i (least_same ts i) 0 h))
      (below j i);
})

-- ---- the first i names have their numbers
pub record Going (top : ℕ) (ts : List (List ℕ)) (n i : ℕ) (old₁ old₂ old₃ : List ℕ) (old₄ : List Bool) (ids heads links : List ℕ) (marks : List Bool) : Type 0 where
  pub low : i ≤ n
  pub size₁ : length ids ≡ length old₁
  pub size₂ : length heads ≡ length old₂
  pub size₃ : length links ≡ length old₃
  pub size₄ : length marks ≡ length old₄
  pub numbered : Numbered ts i ids
  pub behind : drop n ids ≡ drop n old₁
  pub chains : Heads top ts i heads
  pub linked : Links top ts i links
  pub marked : HashMarks ts i marks

module _ (top : ℕ) (ts : List (List ℕ)) (n : ℕ) (old₁ old₂ old₃ : List ℕ) (old₄ : List Bool) where
  pub going_start : Heads top ts 0 old₂ → Going top ts n 0 old₁ old₂ old₃ old₄ old₁ old₂ old₃ old₄
  going_start z =
      record {
        low = omega arith;
        size₁ = refl;
        size₂ = refl;
        size₃ = refl;
        size₄ = refl;
        numbered = numbered-none ts old₁;
        behind = refl;
        chains = z;
        linked = links-none top ts old₃;
        marked = hash-marks-none ts old₄;
      }

  module _ (i : ℕ) (ids heads links : List ℕ) (marks : List Bool) (z : Going top ts n i old₁ old₂ old₃ old₄ ids heads links marks) where
    pub going_on : (ids' heads' links' : List ℕ) (marks' : List Bool) → i < n → n ≤ length old₁ → length ids' ≡ length ids → length heads' ≡ length heads → length links' ≡ length links
        → length marks' ≡ length marks → ids' ≡ set ids i (least_same ts i) → Heads top ts (i + 1) heads' → Links top ts (i + 1) links' → HashMarks ts (i + 1) marks'
        → Going top ts n (i + 1) old₁ old₂ old₃ old₄ ids' heads' links' marks'
    going_on ids' heads' links' marks' h r a b c f e zh zn zm =
        record {
          low = omega arith;
          size₁ = a ∙ z.size₁;
          size₂ = b ∙ z.size₂;
          size₃ = c ∙ z.size₃;
          size₄ = f ∙ z.size₄;
          numbered = numbered_more ts i ids ids' (omega (arith, z.size₁)) z.numbered e;
          behind = ap (drop n) e ∙ drop-set-lt n ids i (least_same ts i) h ∙ z.behind;
          chains = zh;
          linked = zn;
          marked = zm;
        }

    pub going_end : n ≤ i → Numbered ts n ids
    going_end h = let e : i ≡ n = omega (arith, z.low) in rw e at z.numbered

    pub going-marks : n ≤ i → n ≤ length ts → Marked ts n marks
    going-marks h l = let e : i ≡ n = omega (arith, z.low) in marked_all ts n marks l (rw e at z.marked)
