use mathlib.Core.Path.{◌≡◌}
use Rattle.frame.specs.Doc.{doc_of}
use Rattle.grammar.specs.Tree.{tree_of}
use Rattle.schema.specs.Inner.{first_named}
use Rattle.schema.proofs.find_named.Given as goal

abbrev pub invariant-loop-j : goal.invariant-loop-j
invariant-loop-j l = first_named (tree_of (doc_of l.s)) l.kind l.name l.j l.to ≡ first_named (tree_of (doc_of l.s))
    l.kind l.name l.from l.to
