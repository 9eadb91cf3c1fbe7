-- The kinds of cells are those of literals, Null to String. This is all that the proofs here know of them.
use Prim.Native.Nat.{ℕ, ◌≤◌}
use Rattle.rules.specs.Kinds as Kind
use Rattle.rfc4180.specs.Cells.{Cell}
use Rattle.cells.proofs.Kinded.{kind-bounds}
use Rattle.row_paper.specs.Paper.{literal_kind}

-- a literal's kind
abbrev pub IsLiteral : ℕ → Type 0
IsLiteral k = (Kind.Null ≤ k) × (k ≤ Kind.String)

pub kind-range : (c : Cell) → IsLiteral (literal_kind c)
kind-range c = kind-bounds c
