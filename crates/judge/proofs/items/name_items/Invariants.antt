use Prim.Native.Nat.{◌+◌, ◌≤◌}
use Rattle.lists.specs.Lists.{over}
use Rattle.frame.specs.Doc.{doc_of}
use Rattle.grammar.specs.Tree.{tree_of}
use Rattle.provider.specs.Schema.{schema_of}
use Rattle.breach.specs.Listing.{name_item}
use Rattle.judge.specs.Window.{WroteItems}
use Rattle.judge.proofs.items.name_items.Given as goal

abbrev pub invariant-loop-k : goal.invariant-loop-k
invariant-loop-k l = (l.k ≤ l.many) × (l.tallied.count ≤ l.initial.tallied.count + l.k) × WroteItems
    (over (name_item (tree_of (doc_of l.s)) (schema_of (tree_of (doc_of l.d))) l.i) 0 l.k) l.initial.tallied l.initial.list l.tallied l.list
