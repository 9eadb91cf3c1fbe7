use mathlib.Core.Path.{◌≡◌}
use Prim.Native.Nat.{◌+◌, ◌≤◌}
use lib.ListN.{length}
use Rattle.lists.specs.Lists.{over}
use Rattle.frame.specs.Doc.{doc_of}
use Rattle.grammar.specs.Tree.{tree_of}
use Rattle.schema.specs.Declarations.{of_kind}
use Rattle.of_kind.proofs.count_of.Given as goal

abbrev pub invariant-loop-j : goal.invariant-loop-j
invariant-loop-j l = (l.many + length (over (of_kind (tree_of (doc_of l.s)) l.kind) l.j l.to) ≡ length
    (over (of_kind (tree_of (doc_of l.s)) l.kind) l.from l.to)) × (l.from ≤ l.j)
