-- The content of a raw cell, by its first byte.
use mathlib.Core.Path.{◌≡◌, refl}
use mathlib.Core.List.{List, [], ◌∷◌}
use Prim.Native.Nat.{ℕ, ◌-◌}
use native.Mathlib.Omega.{arith}
use lib.ListN.{length, get_or, take, drop}
use lib.Seq.{take_all}
use borrow.Author.Tests.{eq-eqb, ne_eqb}
use Rattle.rfc4180.specs.Grammar.{DQUOTE}
use Rattle.cells.specs.Raw.{undoubled, cell_of}

pub content-none : (raw : List ℕ) → length raw ≡ 0 → (cell_of raw).content ≡ []
unfolding cell_of
content-none [] h = refl
content-none (b ∷ s) h = absurd (omega arith)

pub content-quoted : (raw : List ℕ) → get_or raw 0 0 ≡ DQUOTE
    → (cell_of raw).content ≡ undoubled (take (length raw - 1) (drop 1 raw))
unfolding cell_of
content-quoted [] q = absurd (omega arith)
content-quoted (b ∷ s) q = rw (take_all (length (b ∷ s) - 1) s (omega arith), eq-eqb b DQUOTE q)

pub content-plain : (raw : List ℕ) → (get_or raw 0 0 ≡ DQUOTE → ⊥) → (cell_of raw).content ≡ raw
unfolding cell_of
content-plain [] q = refl
content-plain (b ∷ s) q = rw (ne_eqb b DQUOTE q)
