-- The bytes of a document in a thin sheet, and a sheet made thin.
use Rattle.std.specs.Prelude.{ℕ, ◌+◌, List, [], ◌∷◌, ◌++◌}
use Rattle.lists.specs.Lists.{pick, each}
use Rattle.endian.specs.Endian.{u16_of}
use Rattle.frame.specs.Sheet.{top_bit, is_thin}
use Rattle.frame.specs.Doc.{Doc, doc_of}
use Rattle.frame.specs.declared.Sheet.{Sheet}
use Rattle.written.specs.Written.{u32s, text_in, ends_from, sizes_in, kind_bytes, value_bytes}

-- several u16, in turn
abbrev pub u16s : List ℕ → List ℕ
u16s ns = each u16_of ns

-- Sizes: u32 T tokens with the top bit set, u32 M names, u32 B bytes of text
abbrev pub thin_sizes : Sheet → List ℕ
thin_sizes f = u32s ((top_bit + f.tokens) ∷ f.names ∷ f.text ∷ [])

-- the sizes, then T kinds, T values, M u16 name ends, the text
unfoldable pub thinned : Doc → List ℕ
thinned d =
    thin_sizes (sizes_in d) ++ (kind_bytes d.tokens
    ++ (value_bytes d.tokens ++ (u16s (ends_from 0 d.names) ++ text_in d.names)))

-- a sheet made thin: one already of that kind is copied
unfoldable pub thin_of : List ℕ → List ℕ
thin_of s = pick (is_thin s) s (thinned (doc_of s))
