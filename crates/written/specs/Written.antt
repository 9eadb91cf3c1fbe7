-- The bytes of a document: the sheet that holds it.
use Rattle.std.specs.Prelude.{ℕ, ◌+◌, ◌<◌, ◌≤◌, ◌≡◌, Bool, true, List, [], ◌∷◌, ◌++◌, map, length, leb}
use Rattle.lists.specs.Lists.{both, each}
use Rattle.endian.specs.Endian.{u32_of}
use Rattle.utf8.specs.Utf8.{utf8}
use Rattle.frame.specs.Limits.{max_tokens, max_names, max_text}
use Rattle.frame.specs.Doc.{Doc, Token, kind_of, value_of, name_of}
use Rattle.frame.specs.declared.Sheet.{Sheet}

-- several u32, in turn
abbrev pub u32s : List ℕ → List ℕ
u32s ns = each u32_of ns

-- the text: the names, one after the other; and where each of them ends, the first beginning at a place
abbrev pub text_in : List (List ℕ) → List ℕ
text_in ns = each (λ n. n) ns

unfoldable pub ends_from : ℕ → List (List ℕ) → List ℕ
ends_from at [] = []
ends_from at (n ∷ ns) = (at + length n) ∷ ends_from (at + length n) ns

-- the sizes of a document's sheet: T tokens, M names, B bytes of text
abbrev pub sizes_in : Doc → Sheet
sizes_in d = record { tokens = length d.tokens; names = length d.names; text = length (text_in d.names) }

-- Sizes: u32 T tokens, u32 M names, u32 B bytes of text
abbrev pub size_bytes : Sheet → List ℕ
size_bytes f = u32s (f.tokens ∷ f.names ∷ f.text ∷ [])

-- T kinds (one byte); T values (u32)
abbrev pub kind_bytes : List Token → List ℕ
kind_bytes ts = map (λ (t : Token). t.kind) ts

abbrev pub value_bytes : List Token → List ℕ
value_bytes ts = u32s (map (λ (t : Token). t.value) ts)

-- the sizes, then T kinds, T values, M u32 name ends, the text
unfoldable pub written : Doc → List ℕ
written d =
    size_bytes (sizes_in d) ++ (kind_bytes d.tokens
    ++ (value_bytes d.tokens ++ (u32s (ends_from 0 d.names) ++ text_in d.names)))

-- sizes that pass no limit of a sheet, and a document that passes none
abbrev pub sizes_within : Sheet → Bool
sizes_within f = both (leb f.tokens max_tokens) (both (leb f.names max_names) (leb f.text max_text))

abbrev pub within_limits : Doc → Bool
within_limits d = sizes_within (sizes_in d)

-- a document that a sheet can hold
pub record Fits (d : Doc) : Type 0 where
  pub some_tokens : 1 ≤ length d.tokens
  pub few_tokens : length d.tokens ≤ max_tokens
  pub few_names : length d.names ≤ max_names
  pub short_text : length (text_in d.names) ≤ max_text
  pub kinds : (i : ℕ) → i < length d.tokens → kind_of d i < 256
  pub values : (i : ℕ) → i < length d.tokens → value_of d i < 4294967296
  pub named : (k : ℕ) → k < length d.names → utf8 (name_of d k) ≡ true
