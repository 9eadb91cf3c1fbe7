-- Little-endian numbers.
use Rattle.std.specs.Prelude.{ℕ, ◌+◌, ◌*◌, ◌/◌, ◌%◌, List, [], ◌∷◌, get_or}

-- the u32 whose four bytes stand from `at` on, the low one first
abbrev pub u32_at : List ℕ → ℕ → ℕ
u32_at s at = get_or s at 0 + 256 * get_or s (at + 1) 0 + 65536 * get_or s (at + 2) 0 + 16777216 * get_or s (at + 3) 0

-- the u16 whose two bytes stand from `at` on, the low one first
abbrev pub u16_at : List ℕ → ℕ → ℕ
u16_at s at = get_or s at 0 + 256 * get_or s (at + 1) 0

-- the four bytes of a u32, the low one first
abbrev pub u32_of : ℕ → List ℕ
u32_of n = n % 256 ∷ n / 256 % 256 ∷ n / 65536 % 256 ∷ n / 16777216 % 256 ∷ []

-- the two bytes of a u16, the low one first
abbrev pub u16_of : ℕ → List ℕ
u16_of n = n % 256 ∷ n / 256 % 256 ∷ []
