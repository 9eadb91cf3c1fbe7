-- What the first byte of a character asks of those after it, row by row of the ABNF: each row is computed over its
-- range.
use mathlib.Core.Path.{◌≡◌, refl, subst}
use mathlib.Core.Bool.{Bool, true}
use mathlib.Core.Logic.{⊎_elim}
use Prim.Native.Nat.{ℕ, zero, suc, ◌+◌, ◌≤◌, ◌<◌}
use native.Mathlib.Omega.{arith}
use native.Mathlib.Nat.{eq-or-lt_of_le}
use lib.Dec.{eqb}
use borrow.Author.Tests.{eqb-true, lt-leb}
use Rattle.lists.specs.Lists.{both}
use Rattle.lists.proofs.Tests.{both_true}
use Rattle.utf8.specs.declared.State.{State}
use Rattle.utf8.specs.Utf8.{fresh, stuck, tails, lead_of}
use Rattle.utf8.specs.Grammar.{In}

same : State → State → Bool
same a b = both (eqb a.more b.more) (both (eqb a.low b.low) (eqb a.high b.high))

same-is : (a b : State) → same a b ≡ true → a ≡ b
unfolding same
same-is a b t =
    let p = both_true (eqb a.more b.more) (both (eqb a.low b.low) (eqb a.high b.high)) t in
    let q = both_true (eqb a.low b.low) (eqb a.high b.high) p.1 in
    λ i. record {
      more = eqb-true a.more b.more p.0 i;
      low = eqb-true a.low b.low q.0 i;
      high = eqb-true a.high b.high q.1 i;
    }

-- the n bytes from lo ask for st
all : State → ℕ → ℕ → Bool
all st lo zero = true
all st lo (suc n) = both (same (lead_of lo) st) (all st (suc lo) n)

all-at : (st : State) (n lo a : ℕ) → all st lo n ≡ true → lo ≤ a → a < lo + n → lead_of a ≡ st
unfolding all
all-at st zero lo a t h g = absurd (omega arith)
all-at st (suc n) lo a t h g =
    let p = both_true (same (lead_of lo) st) (all st (suc lo) n) t in
    ⊎_elim
    (λ (e : lo ≡ a). subst (λ (x : ℕ). lead_of x ≡ st) e (same-is _ _ p.0))
    (λ (l : lo < a). all-at st n (suc lo) a p.1 l (omega arith))
    (eq-or-lt_of_le h)

row : (lo hi n : ℕ) (st : State) (a : ℕ) → all st lo n ≡ true → suc hi ≡ lo + n → In lo hi a → lead_of a ≡ st
row lo hi n st a t e h = all-at st n lo a t h.low (omega arith)

module _ (a : ℕ) where
  pub row-1 : In 0x00 0x7f a → lead_of a ≡ fresh
  unfolding all same lead_of
  row-1 h = row 0x00 0x7f 128 fresh a refl refl h

  pub row-2 : In 0xc2 0xdf a → lead_of a ≡ tails 1 0x80 0xbf
  unfolding all same lead_of
  row-2 h = row 0xc2 0xdf 30 (tails 1 0x80 0xbf) a refl refl h

  pub row-3a : In 0xe0 0xe0 a → lead_of a ≡ tails 2 0xa0 0xbf
  unfolding all same lead_of
  row-3a h = row 0xe0 0xe0 1 (tails 2 0xa0 0xbf) a refl refl h

  pub row-3b : In 0xe1 0xec a → lead_of a ≡ tails 2 0x80 0xbf
  unfolding all same lead_of
  row-3b h = row 0xe1 0xec 12 (tails 2 0x80 0xbf) a refl refl h

  pub row-3c : In 0xed 0xed a → lead_of a ≡ tails 2 0x80 0x9f
  unfolding all same lead_of
  row-3c h = row 0xed 0xed 1 (tails 2 0x80 0x9f) a refl refl h

  pub row-3d : In 0xee 0xef a → lead_of a ≡ tails 2 0x80 0xbf
  unfolding all same lead_of
  row-3d h = row 0xee 0xef 2 (tails 2 0x80 0xbf) a refl refl h

  pub row-4a : In 0xf0 0xf0 a → lead_of a ≡ tails 3 0x90 0xbf
  unfolding all same lead_of
  row-4a h = row 0xf0 0xf0 1 (tails 3 0x90 0xbf) a refl refl h

  pub row-4b : In 0xf1 0xf3 a → lead_of a ≡ tails 3 0x80 0xbf
  unfolding all same lead_of
  row-4b h = row 0xf1 0xf3 3 (tails 3 0x80 0xbf) a refl refl h

  pub row-4c : In 0xf4 0xf4 a → lead_of a ≡ tails 3 0x80 0x8f
  unfolding all same lead_of
  row-4c h = row 0xf4 0xf4 1 (tails 3 0x80 0x8f) a refl refl h

-- no first byte
pub row_low : (a : ℕ) → 0x7f < a → a ≤ 0xc1 → lead_of a ≡ stuck
unfolding all same lead_of
row_low a g h = all-at stuck 66 0x80 a refl g (omega arith)

pub row-high : (a : ℕ) → 0xf4 < a → lead_of a ≡ stuck
unfolding lead_of
row-high a h =
    simp (
      lt-leb a 0x7f (omega arith),
      lt-leb a 0xc1 (omega arith),
      lt-leb a 0xdf (omega arith),
      lt-leb a 0xe0
          (omega arith),
      lt-leb a 0xec (omega arith),
      lt-leb a 0xed (omega arith),
      lt-leb a 0xef (omega arith),
      lt-leb a
          0xf0 (omega arith),
      lt-leb a 0xf3 (omega arith),
      lt-leb a 0xf4 (omega arith),
    )
