-- What is known of two texts while they are looked at.
use Rattle.std.specs.Prelude.{ℕ, ◌-◌, ◌≤◌, ◌≡◌, List, [], ◌∷◌, Bool, true, false, length}
use Rattle.std.specs.declared.cmp.Ordering.{Ordering}
use Rattle.std.specs.declared.cmp.Ordering.TheVariants.{Less, Equal, Greater}
use Rattle.text.specs.Text.{order_of}
use Rattle.text.specs.BytePairs.{common_start, order_pairs}

-- how one number stands to another: as texts of that one number
abbrev pub number_order : ℕ → ℕ → Ordering
number_order x y = order_of (x ∷ []) (y ∷ [])

-- two texts of that order differ
abbrev pub differ : Ordering → Bool
differ Less = true
differ Equal = false
differ Greater = true

-- the length of the shorter text: no difference is below 0
abbrev pub shorter_of : List ℕ → List ℕ → ℕ
shorter_of a b = length a - (length a - length b)

-- after n pairs: while they are equal they are of the common start, and else the order is known and no pair is left to
-- look at
abbrev pub Told : List ℕ → List ℕ → Ordering → ℕ → Type 0
Told a b o n =
    (differ o ≡ false → n ≤ common_start a b) × (differ o ≡ true → (o ≡ order_of a b) × (n ≡ order_pairs a b))
