use mathlib.Core.Path.{◌≡◌}
use lib.ListN.{drop}
use Rattle.lists.specs.Lists.{any_of}
use Rattle.frame.specs.Doc.{doc_of}
use Rattle.grammar.specs.Tree.{tree_of}
use Rattle.schema.specs.Scanned.{tokens_of}
use Rattle.numbers.specs.Least.{texts_of}
use Rattle.provider.specs.Inner.{apart_marked}
use Rattle.provider.proofs.any_apart.Given as goal

abbrev pub invariant-loop-k : goal.invariant-loop-k
invariant-loop-k l = any_of (apart_marked (tree_of (doc_of l.d)) (texts_of l.d l.s) l.marks) (drop l.k (tokens_of (tree_of (doc_of l.d)) 106))
    ≡ any_of (apart_marked (tree_of (doc_of l.d)) (texts_of l.d l.s) l.marks) (tokens_of (tree_of (doc_of l.d)) 106)
