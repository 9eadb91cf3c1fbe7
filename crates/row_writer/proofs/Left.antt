-- The raw cells of a row's text from a place on, for a loop that goes from cell to cell.
use mathlib.Core.Path.{◌≡◌}
use mathlib.Core.Logic.{⊎_elim}
use mathlib.Core.List.{List, [], ◌∷◌}
use Prim.Native.Nat.{ℕ, ◌+◌, ◌-◌, ◌≤◌, ◌<◌}
use native.Mathlib.Nat.{eq-or-lt_of_le}
use native.Mathlib.Omega.{arith}
use borrow.Author.Tests.{le-leb, lt-leb}
use lib.ListN.{length, take, drop}
use lib.Dec.{leb}
use Rattle.lists.specs.Lists.{pick}
use Rattle.cells.specs.Raw.{raw_cells, cell_end}
use Rattle.cells.proofs.Cuts.{end-within, last-cell, next-cell}

-- past the end of the row there is none
abbrev pub cells_left : List ℕ → ℕ → List (List ℕ)
cells_left s at = pick (leb at (length s)) (raw_cells (drop at s)) []

-- the raw cell at a place
abbrev pub cell_at : List ℕ → ℕ → List ℕ
cell_at s at = take (cell_end s at - at) (drop at s)

pub left-all : (s : List ℕ) → cells_left s 0 ≡ raw_cells s
left-all s = rw (le-leb 0 (length s) (omega arith))

pub left-none : (s : List ℕ) (at : ℕ) → length s < at → cells_left s at ≡ []
left-none s at h = rw (lt-leb at (length s) h)

pub left-more : (s : List ℕ) (at : ℕ) → at ≤ length s → cells_left s at ≡ cell_at s at ∷ cells_left s (cell_end s at + 1)
left-more s at h = ⊎_elim
    (λ (e : cell_end s at ≡ length s).
    rw (le-leb at (length s) h, left-none s (cell_end s at + 1) (omega arith)) (last-cell s at h e))
    (λ (l : cell_end s at < length s).
    rw (le-leb at (length s) h, le-leb (cell_end s at + 1) (length s) (omega arith)) (next-cell s at h l))
    (eq-or-lt_of_le (end-within s at h).1)
