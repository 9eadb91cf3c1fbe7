use mathlib.Core.Path.{◌≡◌}
use lib.ListN.{drop}
use Rattle.lists.specs.Lists.{first}
use Rattle.frame.specs.Doc.{doc_of}
use Rattle.grammar.specs.Tree.{tree_of}
use Rattle.schema.specs.Declarations.{equal_apart}
use Rattle.schema.specs.Scanned.{tokens_of}
use Rattle.opening.proofs.apart_fault.Given as goal

abbrev pub invariant-loop-k : goal.invariant-loop-k
invariant-loop-k l = first (equal_apart (tree_of (doc_of l.d))) (drop l.k (tokens_of (tree_of (doc_of l.d)) 106)) ≡ first (equal_apart (tree_of (doc_of l.d))) (tokens_of (tree_of (doc_of l.d)) 106)
