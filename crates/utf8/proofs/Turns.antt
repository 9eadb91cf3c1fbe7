-- One turn of the reader of UTF-8, and its end.
use mathlib.Core.Path.{◌≡◌}
use mathlib.Core.List.{List}
use mathlib.Core.Bool.{Bool}
use Prim.Native.Nat.{ℕ, ◌+◌, ◌-◌, ◌≤◌, ◌<◌}
use lib.Dec.{eqb}
use lib.ListN.{length, get_or, drop}
use Rattle.utf8.specs.declared.State.{State}
use borrow.Author.Tests.{eq-eqb, ne_eqb, lt-ltb, le-ltb}
use Rattle.utf8.specs.Utf8.{tails, stuck, lead_of, step_of, goes_on}
use Rattle.lists.proofs.Laws.{rest_more, rest-none}

pub turn : (st st' : State) (s : List ℕ) (i : ℕ) (b : Bool) → i < length s → st' ≡ step_of st (get_or s i 0)
    → goes_on st (drop i s) ≡ b → goes_on st' (drop (i + 1) s) ≡ b
unfolding goes_on
turn st st' s i b h e p = rw e (rw (rest_more s i h) at p)

pub done : (st : State) (s : List ℕ) (i : ℕ) {b : Bool} → length s ≤ i → goes_on st (drop i s) ≡ b → eqb st.more 0 ≡ b
unfolding goes_on
done st s i h p = rw (rest-none s i h) at p

-- a byte that follows: the first of a character, one in range, and one out of range
module _ (st : State) (b : ℕ) where
  pub step-first : st.more ≡ 0 → lead_of b ≡ step_of st b
  unfolding step_of
  step-first e = simp (eq-eqb _ _ e)

  module _ (n : st.more ≡ 0 → ⊥) where
    pub step-within : st.low ≤ b → b ≤ st.high → tails (st.more - 1) 0x80 0xbf ≡ step_of st b
    unfolding step_of
    step-within h g = simp (ne_eqb _ _ n, le-ltb _ _ h, le-ltb _ _ g)

    pub step-below : b < st.low → stuck ≡ step_of st b
    unfolding step_of
    step-below h = simp (ne_eqb _ _ n, lt-ltb _ _ h)

    pub step-above : st.low ≤ b → st.high < b → stuck ≡ step_of st b
    unfolding step_of
    step-above h g = simp (ne_eqb _ _ n, le-ltb _ _ h, lt-ltb _ _ g)
