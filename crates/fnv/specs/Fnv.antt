-- 64-bit FNV-1a as it is published, and how a hash is spread over 32 bytes.
use Rattle.std.specs.Prelude.{ℕ, ◌+◌, ◌-◌, ◌*◌, ◌/◌, ◌%◌, ◌^◌, List, [], ◌∷◌, bit_xor}
use Rattle.lists.specs.Lists.{table}

-- the offset basis and the FNV prime of 64 bits
abbrev pub basis : ℕ
basis = 0xcbf29ce484222325

abbrev pub prime : ℕ
prime = 0x100000001b3

-- from a hash on: for each byte, hash xor byte, then times the FNV prime, wrapping at 64 bits
unfoldable pub fnv_from : ℕ → List ℕ → ℕ
fnv_from h [] = h
fnv_from h (b ∷ bs) = fnv_from (bit_xor b h * prime % 2 ^ 64) bs

-- the hash of a list of bytes
abbrev pub fnv1a : List ℕ → ℕ
fnv1a bs = fnv_from basis bs

-- h, of 64 bits, rotated left by r of them: what is shifted out above comes in below
unfoldable pub rotated : ℕ → ℕ → ℕ
rotated h r = h * 2 ^ r % 2 ^ 64 + h / 2 ^ (64 - r)

-- byte i of 32 is the low byte of the hash rotated left 7·i mod 64
unfoldable pub spread : ℕ → List ℕ
spread h = table (λ i. rotated h (7 * i % 64) % 256) 0 32
