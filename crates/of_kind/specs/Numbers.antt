-- Declarations and items by their name.
use Rattle.std.specs.Prelude.{ℕ, ◌+◌}
use Rattle.frame.specs.Doc.{Doc, value_of}

-- the name number that stands below a declaration or an item
abbrev pub number_below : Doc → ℕ → ℕ
number_below d i = value_of d (i + 1)
