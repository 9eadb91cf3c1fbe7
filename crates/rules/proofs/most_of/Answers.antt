use mathlib.Core.Path.{◌≡◌, refl}
use mathlib.Core.List.{[], ◌∷◌}
use Prim.Native.Nat.{ℕ}
use native.Mathlib.Omega.{arith}
use Rattle.lists.specs.Lists.{table, first, any_of}
use Rattle.rules.specs.Rules.{rules, any, most_of}
use Rattle.rules.proofs.Rows.{by_key, most-rest, most-past, type-ruled}
use Rattle.rules.proofs.most_of.Goals as goal

pub returns-in-120-to-128 : goal.returns-in-120-to-128
returns-in-120-to-128 c =
    (type-ruled 0 _ (omega arith) (omega arith)).most

pub returns-in-13 : goal.returns-in-13
unfolding most_of rules first any_of table
returns-in-13 c =
    by_key (λ (k : ℕ). any ≡ most_of k) (13 ∷ 16 ∷ 20 ∷ 26 ∷ []) _ c.in-13.is (refl, (refl, (refl, (refl, tt))))

pub returns-in-14 : goal.returns-in-14
unfolding most_of rules first any_of table
returns-in-14 c =
    by_key (λ (k : ℕ). any ≡ most_of k) (14 ∷ 50 ∷ 60 ∷ 62 ∷ []) _ c.in-14.is (refl, (refl, (refl, (refl, tt))))

pub returns-in-51 : goal.returns-in-51
unfolding most_of rules first any_of table
returns-in-51 c =
    by_key (λ (k : ℕ). any ≡ most_of k) (51 ∷ 61 ∷ 63 ∷ []) _ c.in-51.is (refl, (refl, (refl, tt)))

pub returns-in-74 : goal.returns-in-74
unfolding most_of rules first any_of table
returns-in-74 c =
    by_key (λ (k : ℕ). any ≡ most_of k) (74 ∷ 77 ∷ 79 ∷ 82 ∷ 84 ∷ []) _ c.in-74.is (refl, (refl, (refl, (refl, (refl, tt)))))

pub returns-in-75 : goal.returns-in-75
unfolding most_of rules first any_of table
returns-in-75 c =
    by_key (λ (k : ℕ). any ≡ most_of k) (75 ∷ 78 ∷ 85 ∷ 90 ∷ []) _ c.in-75.is (refl, (refl, (refl, (refl, tt))))

pub returns-in-100 : goal.returns-in-100
unfolding most_of rules first any_of table
returns-in-100 c =
    by_key (λ (k : ℕ). any ≡ most_of k) (100 ∷ 102 ∷ 104 ∷ 111 ∷ []) _ c.in-100.is (refl, (refl, (refl, (refl, tt))))

pub returns-in-101 : goal.returns-in-101
unfolding most_of rules first any_of table
returns-in-101 c =
    by_key (λ (k : ℕ). any ≡ most_of k) (101 ∷ 105 ∷ []) _ c.in-101.is (refl, (refl, tt))

pub returns-in-12 : goal.returns-in-12
unfolding most_of rules first any_of table
returns-in-12 c =
    by_key (λ (k : ℕ). 3 ≡ most_of k) (12 ∷ []) _ c.in-12.is (refl, tt)

pub returns-in-23 : goal.returns-in-23
unfolding most_of rules first any_of table
returns-in-23 c =
    by_key (λ (k : ℕ). 1 ≡ most_of k) (23 ∷ 25 ∷ []) _ c.in-23.is (refl, (refl, tt))

pub returns-in-24 : goal.returns-in-24
unfolding most_of rules first any_of table
returns-in-24 c =
    by_key (λ (k : ℕ). 1 ≡ most_of k) (24 ∷ 103 ∷ 110 ∷ []) _ c.in-24.is (refl, (refl, (refl, tt)))

pub returns-in_default : goal.returns-in_default
returns-in_default c =
    most-rest _ c.in_default.in_default-own.rest (omega arith)

pub returns-in_default-2 : goal.returns-in_default-2
returns-in_default-2 c =
    most-past _ (omega arith) c.ranges.kind.fits
