-- UTF-8 as RFC 3629 defines it: the ABNF of its section 4, row by row. `agree` of the proofs says that `utf8` decides
-- it.
use Rattle.std.specs.Prelude.{ℕ, ◌≤◌, List, [], ◌∷◌}

-- %xLO-HI
pub record In (lo hi a : ℕ) : Type 0 where
  pub low : lo ≤ a
  pub high : a ≤ hi

-- UTF8-tail = %x80-BF
abbrev pub Tail : ℕ → Type 0
Tail a = In 0x80 0xbf a

-- UTF8-octets = *( UTF8-char ), with a constructor for each row of UTF8-1, UTF8-2, UTF8-3 and UTF8-4
pub data Octets : List ℕ → Type 0 where
  no_char : Octets []
  -- UTF8-1 = %x00-7F
  char_1 : {a : ℕ} {s : List ℕ} → In 0x00 0x7f a → Octets s → Octets (a ∷ s)
  -- UTF8-2 = %xC2-DF UTF8-tail
  char_2 : {a b : ℕ} {s : List ℕ} → In 0xc2 0xdf a → Tail b → Octets s → Octets (a ∷ b ∷ s)
  -- UTF8-3 = %xE0 %xA0-BF UTF8-tail / %xE1-EC 2( UTF8-tail ) / %xED %x80-9F UTF8-tail / %xEE-EF 2( UTF8-tail )
  char_3a : {a b c : ℕ} {s : List ℕ} → In 0xe0 0xe0 a → In 0xa0 0xbf b → Tail c → Octets s → Octets (a ∷ b ∷ c ∷ s)
  char_3b : {a b c : ℕ} {s : List ℕ} → In 0xe1 0xec a → Tail b → Tail c → Octets s → Octets (a ∷ b ∷ c ∷ s)
  char_3c : {a b c : ℕ} {s : List ℕ} → In 0xed 0xed a → In 0x80 0x9f b → Tail c → Octets s → Octets (a ∷ b ∷ c ∷ s)
  char_3d : {a b c : ℕ} {s : List ℕ} → In 0xee 0xef a → Tail b → Tail c → Octets s → Octets (a ∷ b ∷ c ∷ s)
  -- UTF8-4 = %xF0 %x90-BF 2( UTF8-tail ) / %xF1-F3 3( UTF8-tail ) / %xF4 %x80-8F 2( UTF8-tail )
  char_4a : {a b c d : ℕ} {s : List ℕ} → In 0xf0 0xf0 a → In 0x90 0xbf b → Tail c → Tail d → Octets s
      → Octets (a ∷ b ∷ c ∷ d ∷ s)
  char_4b : {a b c d : ℕ} {s : List ℕ} → In 0xf1 0xf3 a → Tail b → Tail c → Tail d → Octets s
      → Octets (a ∷ b ∷ c ∷ d ∷ s)
  char_4c : {a b c d : ℕ} {s : List ℕ} → In 0xf4 0xf4 a → In 0x80 0x8f b → Tail c → Tail d → Octets s
      → Octets (a ∷ b ∷ c ∷ d ∷ s)
