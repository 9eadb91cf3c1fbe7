-- A number in base ten, as it is written in bytes.
use Rattle.std.specs.Prelude.{ℕ, ◌+◌, ◌-◌, ◌*◌, List, [], ◌∷◌, nat_le, Option, Some, None}
use Rattle.lists.specs.Lists.{pick, both}

-- n with one digit more, if the byte is a digit and the number fits 32 bits
unfoldable pub one_more : ℕ → ℕ → Option ℕ
one_more n b =
    pick (both (nat_le 48 b) (both (nat_le b 57) (nat_le (10 * n + (b - 48)) 4294967295))) (Some (10 * n + (b - 48))) None

unfoldable pub more : Option ℕ → ℕ → Option ℕ
more (Some n) b = one_more n b
more None b = None

-- with all digits more
unfoldable pub all_more : List ℕ → Option ℕ → Option ℕ
all_more [] r = r
all_more (b ∷ bs) r = all_more bs (more r b)

-- the number of one digit or more
unfoldable pub number_of : List ℕ → Option ℕ
number_of [] = None
number_of (b ∷ bs) = all_more (b ∷ bs) (Some 0)
