use mathlib.Core.Path.{◌≡◌}
use Rattle.lists.specs.Lists.{first}
use Rattle.frame.specs.Doc.{doc_of}
use Rattle.grammar.specs.Tree.{tree_of}
use Rattle.schema.specs.Scanned.{tokens_of, repeats}
use Rattle.schema.specs.Inner.{searched}
use Rattle.opening.proofs.again_fault.Given as goal

abbrev pub invariant-loop-j : goal.invariant-loop-j
invariant-loop-j l = searched (repeats (tree_of (doc_of l.d)) l.kind) (tree_of (doc_of l.d)) l.kind l.j l.tokens ≡ first (repeats (tree_of (doc_of l.d)) l.kind) (tokens_of (tree_of (doc_of l.d)) l.kind)
