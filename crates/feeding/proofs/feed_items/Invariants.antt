use Prim.Native.Nat.{◌-◌, ◌≤◌}
use mathlib.Core.Path.{◌≡◌}
use Rattle.lists.specs.Lists.{over, each}
use Rattle.frame.specs.Doc.{doc_of}
use Rattle.grammar.specs.Tree.{tree_of}
use Rattle.schema.specs.Declarations.{of_kind}
use Rattle.fnv.specs.Fnv.{fnv_from}
use Rattle.feeding.specs.Inner.{item_feed}
use Rattle.feeding.proofs.feed_items.Given as goal

abbrev pub invariant-loop-j : goal.invariant-loop-j
invariant-loop-j l = (l.h ≡ fnv_from l.hash (each (item_feed (tree_of (doc_of l.s)) l.tag l.flagged) (over (of_kind (tree_of (doc_of l.s)) l.kind) l.from l.j)))
    × (l.from ≤ l.j) × (l.j ≤ l.to)
