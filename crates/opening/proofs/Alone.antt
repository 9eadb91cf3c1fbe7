-- The statement without clauses that stands in where there is a schema alone.
use mathlib.Core.Path.{refl}
use mathlib.Core.List.{List, [], ◌∷◌}
use Prim.Native.Nat.{ℕ}
use Rattle.frame.specs.Sheet.{sheet_of, frame_fault, sized_fault, in_range, end_fault, start_of, name_fault}
use Rattle.frame.specs.Inner.{Sound}
use Rattle.frame.proofs.Laws.{sound}

abbrev pub no_clause : List ℕ
no_clause = 1 ∷ 0 ∷ 0 ∷ 0 ∷ 0 ∷ 0 ∷ 0 ∷ 0 ∷ 0 ∷ 0 ∷ 0 ∷ 0 ∷ 90 ∷ 0 ∷ 0 ∷ 0 ∷ 0 ∷ []

pub no-clause-sound : Sound no_clause (record { tokens = 1; names = 0; text = 0 })
unfolding frame_fault sheet_of sized_fault in_range end_fault start_of name_fault
no-clause-sound = sound no_clause (record { tokens = 1; names = 0; text = 0 }) refl refl
