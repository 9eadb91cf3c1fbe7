-- What stands below a token, place by place, and the one kind that the place of a Name and those of a span take.
use mathlib.Core.Bool.{true}
use mathlib.Core.Path.{◌≡◌, refl, sym}
use mathlib.Core.List.{List, [], ◌∷◌}
use Prim.Native.Nat.{ℕ, zero, suc, ◌+◌, ◌*◌, ◌/◌, ◌%◌, ◌<◌}
use native.Mathlib.Nat.{zero-add}
use native.Mathlib.Omega.{arith}
use lib.ListN.{length, get_or}
use Rattle.lists.specs.Lists.{table, first, any_of, is_one}
use Rattle.rules.specs.declared.Place.{Place}
use Rattle.rules.specs.declared.Place.TheVariants.{Expr, Name, SpanStart, SpanEnd}
use Rattle.rules.specs.Rules.{takes, rules, opens, many, pairs}
use Rattle.rules.proofs.Rows.{taken-by}

-- ---- n times a place: the one at c, and the first behind them
pub many-at : (n c : ℕ) (p q : Place) (ps : List Place) → c < n → get_or (many n p ps) c q ≡ p
unfolding many
many-at zero c p q ps h = absurd (omega arith)
many-at (suc n) zero p q ps h = refl
many-at (suc n) (suc c) p q ps h = many-at n c p q ps (omega arith)

pub many-past : (n : ℕ) (p q : Place) (ps : List Place) → get_or (many n p ps) n q ≡ get_or ps 0 q
unfolding many
many-past zero p q ps = refl
many-past (suc n) p q ps = many-past n p q ps

-- ---- n pairs: how many places they stand for, and the Name of pair k
pub pairs-length : (n : ℕ) (ps : List Place) → length (pairs n ps) ≡ 2 * n + length ps
unfolding pairs
pairs-length zero ps = sym (zero-add (length ps))
pairs-length (suc n) ps = omega (arith, pairs-length n ps)

pub pairs-at : (n k : ℕ) → k < n → get_or (pairs n []) (2 * k) Expr ≡ Name
unfolding pairs
pairs-at zero k h = absurd (omega arith)
pairs-at (suc n) zero h = refl
pairs-at (suc n) (suc k) h =
    let e : 2 * suc k ≡ suc (suc (2 * k)) = omega arith in
    rw e (pairs-at n k (omega arith))

-- ---- an element and a Map
abbrev pub element_places : ℕ → List Place
element_places v = SpanStart ∷ SpanEnd ∷ many (v / 2) Name (many (v % 2) Expr [])

pub element-opens : (k v : ℕ) → is_one (62 ∷ 63 ∷ []) k ≡ true → opens k v ≡ element_places v
unfolding opens rules first any_of table
element-opens k v h = taken-by (λ n. opens n v ≡ element_places v) (62 ∷ 63 ∷ []) k h (refl, (refl, tt))

pub map-opens : (k v : ℕ) → k ≡ 14 → opens k v ≡ pairs v []
unfolding opens rules first any_of table
map-opens k v e = rw e

-- ---- the kinds of a Name, and of a start and an end
pub name-kind : (k : ℕ) → is_one (takes Name) k ≡ true → k ≡ 50
unfolding takes table
name-kind k h = taken-by (λ (n : ℕ). n ≡ 50) (50 ∷ []) k h (refl, tt)

pub start-kind : (k : ℕ) → is_one (takes SpanStart) k ≡ true → k ≡ 51
unfolding takes table
start-kind k h = taken-by (λ (n : ℕ). n ≡ 51) (51 ∷ []) k h (refl, tt)

pub end-kind : (k : ℕ) → is_one (takes SpanEnd) k ≡ true → k ≡ 51
unfolding takes table
end-kind k h = taken-by (λ (n : ℕ). n ≡ 51) (51 ∷ []) k h (refl, tt)
