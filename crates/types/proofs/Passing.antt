-- Which inferred types a declared one takes: the tests of one side alone, the table's rule, and what stripping lists
-- leaves.
use mathlib.Core.Path.{◌≡◌, refl, sym}
use mathlib.Core.Bool.{Bool, true, false}
use mathlib.Core.List.{List}
use Prim.Native.Nat.{ℕ, zero, suc, ◌+◌, ◌*◌, ◌/◌, ◌%◌, ◌≤◌, ◌<◌}
use native.Mathlib.Omega.{arith}
use lib.Dec.{eqb}
use lib.ListN.{get_or}
use borrow.Author.Tests.{ne_eqb}
use Rattle.lists.specs.Lists.{pick, both, either, table, any_of}
use Rattle.lists.proofs.Laws.{table_at}
use Rattle.lists.proofs.Ranges.{every_from, every-at}
use Rattle.types.specs.Types.{loose, wide, scalars, compatible, compatible_at}

-- the inferred types that pass for every declared one
module _ (a : ℕ) where
  pub loose-first : a < 2 → true ≡ loose a
  unfolding every_from any_of
  loose-first h = sym (every-at (λ (k : ℕ). loose k) 2 0 a refl (omega arith) h)

  pub loose-last : a ≡ 14 → true ≡ loose a
  unfolding any_of
  loose-last e = rw e

  pub not-loose : 2 ≤ a → (a ≡ 14 → ⊥) → false ≡ loose a
  unfolding any_of
  not-loose h g = simp (ne_eqb a 0 (λ e. omega arith), ne_eqb a 14 g, ne_eqb a 1 (λ e. omega arith))

-- the declared types that take every inferred one. A declared type b has the kind 120 + b
module _ (b : ℕ) where
  pub wide-in : 6 ≤ b → b < 9 → true ≡ wide (120 + b)
  unfolding every_from any_of
  wide-in h g = sym (every-at (λ (k : ℕ). wide (120 + k)) 3 6 b refl h g)

  pub not_wide : (6 ≤ b → b < 9 → ⊥) → false ≡ wide (120 + b)
  unfolding any_of
  not_wide h =
      simp (
        ne_eqb (120 + b) 128 (λ e. h (omega arith) (omega arith)),
        ne_eqb (120 + b) 127 (λ e. h (omega arith) (omega arith)),
        ne_eqb (120 + b) 126 (λ e. h (omega arith) (omega arith)),
      )

-- past the table's rows and columns, the other side alone decides
either-false : (t : Bool) → either t false ≡ t
either-false true = refl
either-false false = refl

no_row : (a b : ℕ) → 14 < a → scalars a b ≡ false
unfolding any_of scalars
no_row a b h =
    simp (
      ne_eqb a 6 (λ e. omega arith),
      ne_eqb a 3 (λ e. omega arith),
      ne_eqb a 5 (λ e. omega arith),
      ne_eqb a 4 (λ e. omega arith),
      ne_eqb a 2 (λ e. omega arith),
      ne_eqb a 7 (λ e. omega arith),
      ne_eqb a 8 (λ e. omega arith),
    )

pub past-rows : (a b : ℕ) → 14 < a → wide b ≡ compatible a b
unfolding compatible
past-rows a b h = simp (← not-loose a (omega arith) (λ e. omega arith), no_row a b h, either-false)

both_false : (t : Bool) → both t false ≡ false
both_false true = refl
both_false false = refl

no-column : (a b : ℕ) → 8 < b → scalars a (120 + b) ≡ false
unfolding any_of scalars
no-column a b h =
    simp (
      ne_eqb (120 + b) 120 (λ e. omega arith),
      ne_eqb (120 + b) 121 (λ e. omega arith),
      ne_eqb (120 + b) 122 (λ e. omega arith),
      ne_eqb (120 + b) 123 (λ e. omega arith),
      ne_eqb (120 + b) 124 (λ e. omega arith),
      ne_eqb (120 + b) 125 (λ e. omega arith),
      both_false,
    )

pub past-columns : (a b : ℕ) → 8 < b → loose a ≡ compatible a (120 + b)
unfolding compatible
past-columns a b h = simp (← not_wide b (λ f g. omega arith), no-column a b h, either-false)

-- the rule at each entry of the table: row a, column b; the digit 1 says that it passes
abbrev pub entries : List ℕ
entries = table (λ k. pick (compatible (k / 9) (120 + k % 9)) 49 48) 0 135

digit : (t : Bool) → eqb (pick t 49 48) 49 ≡ t
digit true = refl
digit false = refl

pub entry : (a b : ℕ) → a ≤ 14 → b ≤ 8 → eqb (get_or entries (9 * a + b) 0) 49 ≡ compatible a (120 + b)
entry a b h g =
    let p : (9 * a + b) / 9 ≡ a = omega arith in
    let q : (9 * a + b) % 9 ≡ b = omega arith in
    rw (table_at {A = ℕ} (λ k. pick (compatible (k / 9) (120 + k % 9)) 49 48) 135 (9 * a + b) 0 (omega arith), p, q)
    (digit (compatible a (120 + b)))

-- strip lists from both
pub level : (a b m n : ℕ) → m ≤ n → n ≤ m → compatible_at a m b n ≡ compatible a b
unfolding compatible_at
level a b zero zero h g = refl
level a b zero (suc n) h g = absurd (omega arith)
level a b (suc m) zero h g = absurd (omega arith)
level a b (suc m) (suc n) h g = level a b m n (omega arith) (omega arith)

pub inferred-deeper : (a b m n : ℕ) → n < m → compatible_at a m b n ≡ wide b
unfolding compatible_at
inferred-deeper a b zero n h = absurd (omega arith)
inferred-deeper a b (suc m) zero h = refl
inferred-deeper a b (suc m) (suc n) h = inferred-deeper a b m n (omega arith)

pub declared-deeper : (a b m n : ℕ) → m < n → compatible_at a m b n ≡ loose a
unfolding compatible_at
declared-deeper a b m zero h = absurd (omega arith)
declared-deeper a b zero (suc n) h = refl
declared-deeper a b (suc m) (suc n) h = declared-deeper a b m n (omega arith)
