-- The name by which functions stand in order.
use Rattle.std.specs.Prelude.{ℕ, List}
use Rattle.text.specs.Folded.{folded}
use Rattle.grammar.specs.Tree.{Tree}
use Rattle.schema.specs.Declarations.{name_below}

-- the name of a function, A to Z as a to z
abbrev pub folded_below : Tree → ℕ → List ℕ
folded_below t i = folded (name_below t i)
