use mathlib.Core.Path.{◌≡◌}
use Prim.Native.Nat.{◌≤◌}
use lib.ListN.{length}
use Rattle.lists.specs.Lists.{over}
use Rattle.frame.specs.Doc.{doc_of}
use Rattle.rules.specs.Kinds as Kind
use Rattle.grammar.specs.Tree.{tree_of}
use Rattle.schema.specs.Declarations.{of_kind}
use Rattle.numbers.specs.Least.{texts_of}
use Rattle.properties.specs.Entering.{entered_each}
use Rattle.properties.proofs.enter_items.Given as goal

abbrev pub invariant-loop-j : goal.invariant-loop-j
invariant-loop-j l = (l.from ≤ l.j) × (l.j ≤ l.to) × (length l.entered ≡ length l.initial.entered) × (l.entered ≡ entered_each (texts_of l.d l.s) (tree_of (doc_of l.d)) (over (of_kind (tree_of (doc_of l.d)) Kind.Property) l.from l.j) l.initial.entered)
