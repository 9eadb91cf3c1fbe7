use Prim.Native.Nat.{ℕ}
use mathlib.Core.Path.{◌≡◌}
use Rattle.lists.specs.Lists.{first}
use Rattle.frame.specs.Doc.{doc_of}
use Rattle.grammar.specs.Tree.{tree_of}
use Rattle.schema.specs.Scanned.{tokens_of, repeats}
use Rattle.schema.specs.Inner.{searched}
use Rattle.opening.specs.Reading.{Single}
use Rattle.opening.proofs.any_again.Given as goal

abbrev pub invariant-loop-j : goal.invariant-loop-j
invariant-loop-j l = (k : ℕ) → Single k → searched (repeats (tree_of (doc_of l.d)) k) (tree_of (doc_of l.d)) k l.j l.tokens ≡ first (repeats (tree_of (doc_of l.d)) k) (tokens_of (tree_of (doc_of l.d)) k)
