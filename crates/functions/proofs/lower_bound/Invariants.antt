use Prim.Native.Nat.{◌-◌}
use Rattle.text.specs.Folded.{folded}
use Rattle.frame.specs.Doc.{doc_of}
use Rattle.grammar.specs.Tree.{tree_of}
use Rattle.functions.specs.Functions.{folded_below}
use Rattle.functions.specs.Inner.{Parted}
use Rattle.functions.proofs.lower_bound.Given as goal

abbrev pub invariant-loop-low : goal.invariant-loop-low
invariant-loop-low l = Parted (folded_below (tree_of (doc_of l.d))) (folded l.name) l.functions l.low l.high

abbrev pub decreases-loop-low : goal.decreases-loop-low
decreases-loop-low l = l.high - l.low
