use Prim.Native.Nat.{◌+◌, ◌-◌, ◌*◌, ◌≤◌}
use mathlib.Core.Path.{◌≡◌}
use Rattle.frame.specs.Doc.{doc_of}
use Rattle.grammar.specs.Inner.{most_trees}
use Rattle.grammar.specs.Tree.{tree_of, past, end}
use Rattle.grammar.proofs.skip.Given as goal

abbrev pub invariant-loop-need : goal.invariant-loop-need
invariant-loop-need l = (l.i ≤ l.at) × ((l.at ≤ l.f.tokens) × ((past (tree_of (doc_of l.s)) l.need l.at ≡ end (tree_of (doc_of l.s)) l.i)
    × (l.need ≤ 1 + most_trees * (l.at - l.i))))

abbrev pub decreases-loop-need : goal.decreases-loop-need
decreases-loop-need l = l.f.tokens - l.at
