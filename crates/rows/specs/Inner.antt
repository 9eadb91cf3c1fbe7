-- What the functions that look for a row ensure.
use Rattle.std.specs.Prelude.{ℕ, ◌-◌, ◌≤◌, Bool, true, false, List, length, take, drop}
use Rattle.lists.specs.Lists.{nth}
use Rattle.rfc4180.specs.Cells.{Row}
use Rattle.rfc4180.specs.declared.Line.{Line}
use Rattle.rfc4180.specs.declared.Line.TheVariants.{Whole, End, Broken}
use Rattle.row_writer.specs.declared.Bounds.{Bounds}
use Rattle.row_writer.specs.Inner.{Cut}
use Rattle.std.specs.Prelude.{Option, Some, None}

-- there are rows
abbrev pub is_there : Option (List Row) → Bool
is_there None = false
is_there (Some rows) = true

-- a row's bounds
abbrev pub bounds_of : Row → Bounds
bounds_of r = record { start = r.start; stop = r.stop; cells = length r.cells }

-- a row that was looked for, and row k of a text's
abbrev pub searched : Option Row → Option Bounds
searched None = None
searched (Some r) = Some (bounds_of r)

unfoldable pub found_in : Option (List Row) → ℕ → Option Bounds
found_in None k = None
found_in (Some rows) k = searched (nth rows k)

-- the row that begins at a place
abbrev pub searched_at : Line → ℕ → Option Bounds
searched_at (Whole s) at = Some (record { start = at; stop = s.stop; cells = s.cells })
searched_at End at = None
searched_at (Broken p) at = None

-- the bytes from a row's start up to its stop
abbrev pub bytes_in : List ℕ → Bounds → List ℕ
bytes_in text b = take (b.stop - b.start) (drop b.start text)

-- the bounds of a text's header, and of a row of the text with as many cells
pub record Even (text : List ℕ) (header row : Bounds) : Type 0 where
  pub header_ordered : header.start ≤ header.stop
  pub header_inside : header.stop ≤ length text
  pub row_inside : row.stop ≤ length text
  pub cut : Cut (bytes_in text header) (bytes_in text row) row
