-- The pairs of bytes that a comparison of two names looks at: byte i of the one and byte i of the other are a pair.
use Rattle.std.specs.Prelude.{ℕ, suc, ◌+◌, List, [], ◌∷◌, Bool, ltb, eqb, length}
use Rattle.lists.specs.Lists.{pick, both}

-- how many bytes the common start of two names has
unfoldable pub common_start : List ℕ → List ℕ → ℕ
common_start [] b = 0
common_start (x ∷ a) [] = 0
common_start (x ∷ a) (y ∷ b) = let r : ℕ = common_start a b in pick (eqb x y) (suc r) 0

-- both names go on after their common start
abbrev pub both_go_on : List ℕ → List ℕ → Bool
both_go_on a b = both (ltb (common_start a b) (length a)) (ltb (common_start a b) (length b))

-- what their order takes: the common start and, where both names go on, the next pair
abbrev pub order_pairs : List ℕ → List ℕ → ℕ
order_pairs a b = common_start a b + pick (both_go_on a b) 1 0

-- what it takes to tell whether they are the same: as many, or none where the lengths already decide
abbrev pub same_pairs : List ℕ → List ℕ → ℕ
same_pairs a b = pick (eqb (length a) (length b)) (order_pairs a b) 0
