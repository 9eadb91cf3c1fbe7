-- Bytes of documents, computed by the definitions.
use mathlib.Core.Path.{◌≡◌, refl}
use mathlib.Core.List.{[], ◌∷◌}
use Rattle.lists.specs.Lists.{each}
use Rattle.written.specs.Written.{ends_from, written}

-- a statement with no clause, 17 bytes
no-clause : written (record { tokens = record { kind = 90; value = 0 } ∷ []; names = [] })
    ≡ 1 ∷ 0 ∷ 0 ∷ 0 ∷ 0 ∷ 0 ∷ 0 ∷ 0 ∷ 0 ∷ 0 ∷ 0 ∷ 0 ∷ 90 ∷ 0 ∷ 0 ∷ 0 ∷ 0 ∷ []
unfolding written ends_from each
no-clause = refl

-- a value of four bytes, and two names, C3 A9 and C3 80
two-names : written (record {
  tokens = record { kind = 51; value = 0x04030201 } ∷ [];
  names = (0xc3 ∷ 0xa9 ∷ []) ∷ (0xc3 ∷ 0x80 ∷ []) ∷ [];
})
    ≡ 1 ∷ 0 ∷ 0 ∷ 0 ∷ 2 ∷ 0 ∷ 0 ∷ 0 ∷ 4 ∷ 0 ∷ 0 ∷ 0 ∷ 51 ∷ 1 ∷ 2 ∷ 3 ∷ 4 ∷ 2 ∷ 0 ∷ 0 ∷ 0 ∷ 4 ∷ 0 ∷ 0 ∷ 0
    ∷ 0xc3 ∷ 0xa9 ∷ 0xc3 ∷ 0x80 ∷ []
unfolding written ends_from each
two-names = refl
