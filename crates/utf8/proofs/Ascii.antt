-- A run of ASCII is passed over: between two characters, bytes below 0x80 leave the reader where it is.
use mathlib.Core.Path.{◌≡◌, ◌∙◌, refl, sym, ap}
use mathlib.Core.Bool.{Bool}
use mathlib.Core.List.{List, [], ◌∷◌}
use Prim.Native.Nat.{ℕ, ◌+◌, ◌≤◌, ◌<◌}
use native.Mathlib.Omega.{arith}
use lib.Bits.{bit_or, or_add_and, and_le_l, and_le_r}
use lib.ListN.{length, get_or, drop}
use borrow.Author.Tests.{eq-eqb}
use Rattle.lists.proofs.Laws.{rest_more}
use Rattle.utf8.specs.declared.State.{State}
use Rattle.utf8.specs.Utf8.{fresh, step_of, goes_on}
use Rattle.utf8.proofs.Rows.{row-1}

-- bits together below m: each side is below m
or-below : (a b m : ℕ) → bit_or a b < m → (a < m) × (b < m)
or-below a b m h =
    let s = or_add_and a b in
    let p = and_le_l a b in
    let q = and_le_r a b in
    (omega arith, omega arith)

-- a byte of ASCII is a character of its own
step-ascii : (b : ℕ) → b < 0x80 → step_of fresh b ≡ fresh
unfolding step_of
step-ascii b h = row-1 b (record { low = omega arith; high = omega arith })

-- at the head of a text it is passed over
head-ascii : (b : ℕ) (s : List ℕ) → b < 0x80 → goes_on fresh (b ∷ s) ≡ goes_on fresh s
unfolding goes_on
head-ascii b s h = ap (λ (st : State). goes_on st s) (step-ascii b h)

-- past one byte of ASCII the text goes on as before it
ascii-turn : (s : List ℕ) (i j : ℕ) → j ≡ i + 1 → i < length s → get_or s i 0 < 0x80
    → goes_on fresh (drop j s) ≡ goes_on fresh (drop i s)
ascii-turn s i j e h b = rw (e, rest_more s i h) (sym (head-ascii (get_or s i 0) (drop (i + 1) s) b))

-- one turn of the loop over a run of ASCII
pub ascii-on : (s : List ℕ) (i : ℕ) {x : Bool} → i < length s → get_or s i 0 < 0x80 → goes_on fresh (drop i s) ≡ x
    → goes_on fresh (drop (i + 1) s) ≡ x
ascii-on s i h b p = ascii-turn s i (i + 1) refl h b ∙ p

-- past eight bytes whose bits together are below 0x80 the text goes on as before them
pub ascii-step : (s : List ℕ) (i : ℕ) → i + 8 ≤ length s
    → bit_or (bit_or (bit_or (bit_or (bit_or (bit_or (bit_or (get_or s i 0) (get_or s (i + 1) 0)) (get_or s (i + 2) 0))
    (get_or s (i + 3) 0)) (get_or s (i + 4) 0)) (get_or s (i + 5) 0)) (get_or s (i + 6) 0)) (get_or s (i + 7) 0) < 0x80
    → goes_on fresh (drop (i + 8) s) ≡ goes_on fresh (drop i s)
ascii-step s i h b =
    let p₇ = or-below _ _ 0x80 b in
    let p₆ = or-below _ _ 0x80 p₇.0 in
    let p₅ = or-below _ _ 0x80 p₆.0 in
    let p₄ = or-below _ _ 0x80 p₅.0 in
    let p₃ = or-below _ _ 0x80 p₄.0 in
    let p₂ = or-below _ _ 0x80 p₃.0 in
    let p₁ = or-below _ _ 0x80 p₂.0 in
    ascii-turn s (i + 7) (i + 8) (omega arith) (omega arith) p₇.1
    ∙ ascii-turn s (i + 6) (i + 7) (omega arith) (omega arith) p₆.1
    ∙ ascii-turn s (i + 5) (i + 6) (omega arith) (omega arith) p₅.1
    ∙ ascii-turn s (i + 4) (i + 5) (omega arith) (omega arith) p₄.1
    ∙ ascii-turn s (i + 3) (i + 4) (omega arith) (omega arith) p₃.1
    ∙ ascii-turn s (i + 2) (i + 3) (omega arith) (omega arith) p₂.1
    ∙ ascii-turn s (i + 1) (i + 2) (omega arith) (omega arith) p₁.1
    ∙ ascii-turn s i (i + 1) (omega arith) (omega arith) p₁.0

-- where no byte of a character is to come, a text goes on as between two characters
pub between : (st : State) (s : List ℕ) → st.more ≡ 0 → goes_on st s ≡ goes_on fresh s
unfolding goes_on step_of
between st [] e = eq-eqb _ _ e
between st (b ∷ s) e = simp (eq-eqb _ _ e)
