-- Thin bytes of documents, computed by the definitions.
use mathlib.Core.Path.{◌≡◌, refl}
use mathlib.Core.List.{List, [], ◌∷◌}
use Prim.Native.Nat.{ℕ}
use Rattle.lists.specs.Lists.{table, each}
use Rattle.frame.specs.Sheet.{sheet_of, start_of, end_of, part_of}
use Rattle.frame.specs.Doc.{doc_as, doc_of}
use Rattle.written.specs.Written.{ends_from}
use Rattle.thinned.specs.Thinned.{thinned, thin_of}

-- a statement with no clause, 17 bytes: no name, and so no byte less
no-clause : thinned (record { tokens = record { kind = 90; value = 0 } ∷ []; names = [] })
    ≡ 1 ∷ 0 ∷ 0 ∷ 128 ∷ 0 ∷ 0 ∷ 0 ∷ 0 ∷ 0 ∷ 0 ∷ 0 ∷ 0 ∷ 90 ∷ 0 ∷ 0 ∷ 0 ∷ 0 ∷ []
unfolding thinned ends_from each
no-clause = refl

-- a value of four bytes, and two names, C3 A9 and C3 80: two bytes less a name
abbrev two-names : List ℕ
two-names =
    1 ∷ 0 ∷ 0 ∷ 128 ∷ 2 ∷ 0 ∷ 0 ∷ 0 ∷ 4 ∷ 0 ∷ 0 ∷ 0 ∷ 51 ∷ 1 ∷ 2 ∷ 3 ∷ 4 ∷ 2 ∷ 0 ∷ 4 ∷ 0 ∷ 0xc3 ∷ 0xa9 ∷ 0xc3 ∷ 0x80 ∷ []

two-names-thin : thin_of (1 ∷ 0 ∷ 0 ∷ 0 ∷ 2 ∷ 0 ∷ 0 ∷ 0 ∷ 4 ∷ 0 ∷ 0 ∷ 0 ∷ 51 ∷ 1 ∷ 2 ∷ 3 ∷ 4 ∷ 2 ∷ 0 ∷ 0 ∷ 0 ∷ 4 ∷ 0 ∷ 0
    ∷ 0 ∷ 0xc3 ∷ 0xa9 ∷ 0xc3 ∷ 0x80 ∷ []) ≡ two-names
unfolding thin_of thinned doc_of doc_as table sheet_of start_of end_of part_of ends_from each
two-names-thin = refl

-- a thin sheet is copied
two-names-copied : thin_of two-names ≡ two-names
unfolding thin_of
two-names-copied = refl
