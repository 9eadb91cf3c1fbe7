use mathlib.Core.Path.{◌≡◌}
use Rattle.frame.specs.Doc.{doc_of}
use Rattle.grammar.specs.Tree.{tree_of}
use Rattle.provider.specs.Inner.{map_keys, tuples_over, backing_of}
use Rattle.provider.proofs.Tuples.{seen_of}
use Rattle.provider.proofs.items_backing.Given as goal

abbrev pub invariant-loop-j : goal.invariant-loop-j
invariant-loop-j l = seen_of l.seen (tuples_over (tree_of (doc_of l.d)) l.j l.to) (map_keys (tree_of (doc_of l.s)) l.map) ≡ backing_of
    (tuples_over (tree_of (doc_of l.d)) l.from l.to) (map_keys (tree_of (doc_of l.s)) l.map)
