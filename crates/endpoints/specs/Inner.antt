-- What the functions that write pairs ask and ensure.
use Rattle.std.specs.Prelude.{ℕ, List, [], ◌∷◌}
use Rattle.lists.specs.Lists.{over, each}
use Rattle.frame.specs.Doc.{Doc}
use Rattle.rules.specs.Kinds as Kind
use Rattle.grammar.specs.Tree.{tree_of}
use Rattle.schema.specs.Declarations.{of_kind}
use Rattle.of_kind.specs.Numbers.{number_below}

-- the pair of a start, as its number, with the End at a token; the pairs of the Start at a token with each End from a
-- up to b
abbrev pub pair_of : Doc → ℕ → ℕ → List ℕ
pair_of d start end = start ∷ number_below d end ∷ []

abbrev pub pairs_over : Doc → ℕ → ℕ → ℕ → List ℕ
pairs_over d a b start = each (pair_of d (number_below d start)) (over (of_kind (tree_of d) Kind.End) a b)
