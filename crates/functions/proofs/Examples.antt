-- Worked examples.
use Prim.Native.Nat.{ℕ}
use mathlib.Core.Path.{◌≡◌, refl}
use mathlib.Core.List.{List, [], ◌∷◌}
use lib.ListN.{length, get_or}
use Rattle.lists.specs.Lists.{table, each, first}
use Rattle.text.specs.Text.{same_text, order_of, bytes}
use Rattle.text.specs.Folded.{lower, same_folded}
use Rattle.rules.specs.Kinds as Kind
use Rattle.grammar.specs.Tree.{Tree}
use Rattle.schema.specs.Declarations.{name_below}
use Rattle.schema.specs.Scanned.{tokens_of}
use Rattle.schema.specs.Inner.{searched}
use Rattle.in_order.specs.InOrder.{before, insert, sorted}
use Rattle.functions.specs.Functions.{folded_below}
use Rattle.std.specs.Prelude.{Some}

-- a schema of four functions: size, count, COUNT and Abs
abbrev kinds : List ℕ
kinds =
    Kind.Schema ∷ Kind.Function ∷ Kind.Name ∷ Kind.Function ∷ Kind.Name ∷ Kind.Function ∷ Kind.Name ∷ Kind.Function
    ∷ Kind.Name ∷ []

abbrev four : Tree
four = record {
  size = length kinds;
  kind = λ i. get_or kinds i 0;
  value = λ i. get_or (4 ∷ []) i 0;
  text = λ i. get_or
      ([] ∷ [] ∷ bytes "size" ∷ [] ∷ bytes "count" ∷ [] ∷ bytes "COUNT" ∷ [] ∷ bytes "Abs" ∷ []) i [];
}

-- a capital letter does not come first, and those that are alike but for case stay as they stand
any-case-in-order : sorted (folded_below four) (tokens_of four Kind.Function) ≡ 7 ∷ 3 ∷ 5 ∷ 1 ∷ []
unfolding tokens_of sorted insert before order_of lower bytes table each
any-case-in-order = refl

-- COUNT is the count that is declared first, though the other is written alike
the-first-counts : searched (λ i. same_folded (bytes "COUNT") (name_below four i)) four Kind.Function 0 four.size
    ≡ Some 3
unfolding searched same_text lower bytes first table each
the-first-counts = refl
