-- How the texts met so far are found again: each that is the first of its text is an entry of one of several chains, by a hash of its text.
use Rattle.std.specs.Prelude.{ℕ, zero, suc, ◌+◌, ◌-◌, ◌*◌, ◌/◌, ◌%◌, ◌≤◌, ◌<◌, ◌≡◌, Bool, true, false, not, List, map, eqb, ltb, length, get_or, set}
use Rattle.std.specs.Int.Bits.{bit_and}
use Rattle.lists.specs.Lists.{pick, both}
use Rattle.endian.specs.Endian.{u32_at}
use Rattle.text.specs.Text.{same_text}
use Rattle.numbers.specs.Least.{text_at, least_same}

-- both halves of a number added, below 2^32
abbrev pub fold_of : ℕ → ℕ
fold_of x = (x / 4294967296 + x) % 4294967296

-- a hash with two more numbers in it
unfoldable pub mix_of : ℕ → ℕ → ℕ → ℕ
mix_of h a b = fold_of ((h + a) * 668265263 + b * 1013904223)

-- a text of at most three bytes as one number; a text's length
unfoldable pub few_of : List ℕ → ℕ
few_of t = get_or t 0 0 + 256 * get_or t (length t / 2) 0 + 65536 * get_or t (length t - 1) 0

abbrev pub size_of : List ℕ → ℕ
size_of t = length t % 4294967296

-- the hash of k steps of eight bytes
unfoldable pub steps_of : List ℕ → ℕ → ℕ
steps_of t zero = size_of t
steps_of t (suc k) = let r : ℕ = steps_of t k in mix_of r (u32_at t (8 * k)) (u32_at t (8 * k + 4))

-- the hash of a list of bytes: a number below 2^32
unfoldable pub bytes_hash : List ℕ → ℕ
bytes_hash t =
    let n : ℕ = length t in
    let short : ℕ = mix_of (size_of t) (u32_at t 0) (u32_at t (n - 4)) in
    let long : ℕ = mix_of (steps_of t ((n - 1) / 8)) (u32_at t (n - 8)) (u32_at t (n - 4)) in
    pick (ltb n 4) (mix_of (size_of t) (few_of t) 0) (pick (ltb n 8) short long)

-- a byte with that bit cleared by which the two cases of a letter differ; a text with each byte so
unfoldable pub caseless : ℕ → ℕ
caseless x = bit_and x 223

unfoldable pub caseless_of : List ℕ → List ℕ
caseless_of t = map caseless t

-- a text's hash. That texts which differ in the case of letters alone share one is all that is used of it
unfoldable pub hash_of : List ℕ → ℕ
hash_of t = bytes_hash (caseless_of t)

-- two texts share a hash alone: they are not the same
unfoldable pub hash_alone : List ℕ → List ℕ → Bool
hash_alone a b = both (eqb (hash_of b) (hash_of a)) (not (same_text a b))

-- marks by number, and where texts i and r share a hash alone, both of theirs
unfoldable pub marks_with : List ℕ → List ℕ → ℕ → ℕ → List Bool → List Bool
marks_with a b i r marks = pick (hash_alone a b) (set (set marks r true) i true) marks

-- a text's chain, of those from 0 to a top whose bits are all ones: the lowest bits of its hash
unfoldable pub chain_of : ℕ → List ℕ → ℕ
chain_of top t = bit_and (hash_of t) top

-- text i is the first of its text
unfoldable pub is_first : List (List ℕ) → ℕ → Bool
is_first ts i = eqb (least_same ts i) i

-- the last entry of chain b among the first n texts, as its number and 1; 0 where there is none
unfoldable pub last_in : ℕ → List (List ℕ) → ℕ → ℕ → ℕ
last_in top ts b zero = 0
last_in top ts b (suc n) = let r : ℕ = last_in top ts b n in pick (both (is_first ts n) (eqb (chain_of top (text_at ts n)) b)) (suc n) r

-- the last entry of each chain; the hash of each entry, and the entry before it, as one number
pub record Heads (top : ℕ) (ts : List (List ℕ)) (n : ℕ) (heads : List ℕ) : Type 0 where
  pub few : top < 65536
  pub all : length heads ≡ top + 1
  pub each : (b : ℕ) → b ≤ top → get_or heads b 0 ≡ last_in top ts b n

pub record Links (top : ℕ) (ts : List (List ℕ)) (n : ℕ) (links : List ℕ) : Type 0 where
  pub each : (r : ℕ) → r < n → is_first ts r ≡ true → get_or links r 0 ≡ hash_of (text_at ts r) * 65536 + last_in top ts (chain_of top (text_at ts r)) r

-- an entry among the first n texts has a mark where another of them shares its hash
pub record HashMarks (ts : List (List ℕ)) (n : ℕ) (marks : List Bool) : Type 0 where
  pub each : (a b : ℕ) → a < n → b < n → is_first ts a ≡ true → is_first ts b ≡ true → (a ≡ b → ⊥)
      → hash_of (text_at ts a) ≡ hash_of (text_at ts b) → get_or marks a false ≡ true
