-- What a search asks and ensures.
use Rattle.std.specs.Prelude.{ℕ, ◌≤◌, ◌<◌, ◌≡◌, true, false, List, length, get_or}
use Rattle.in_order.specs.InOrder.{before}

-- of a list, by the text that each has: all before place `low` are less than k, and none from place `high` on is
pub record Parted (text : ℕ → List ℕ) (k list : List ℕ) (low high : ℕ) : Type 0 where
  pub ordered : low ≤ high
  pub inside : high ≤ length list
  pub less : (i : ℕ) → i < low → before (text (get_or list i 0)) k ≡ true
  pub others : (i : ℕ) → high ≤ i → i < length list → before (text (get_or list i 0)) k ≡ false
