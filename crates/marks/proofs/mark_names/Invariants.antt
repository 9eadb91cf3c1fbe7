use mathlib.Core.Path.{◌≡◌}
use Prim.Native.Nat.{◌+◌, ◌-◌}
use lib.ListN.{length}
use Rattle.frame.specs.Doc.{doc_of}
use Rattle.grammar.specs.Tree.{tree_of, texts}
use Rattle.numbers.specs.Least.{texts_of}
use Rattle.marks.specs.Marks.{marked}
use Rattle.marks.proofs.mark_names.Given as goal

abbrev pub invariant-loop-i : goal.invariant-loop-i
invariant-loop-i l = (marked (texts_of l.d l.s) (texts (tree_of (doc_of l.s)) (l.at + l.i) (l.n - l.i)) l.marks ≡ marked (texts_of l.d l.s) (texts (tree_of (doc_of l.s)) l.at l.n) l.initial.marks) × (length l.marks ≡ length l.initial.marks)
