use mathlib.Core.Path.{◌≡◌}
use Prim.Native.Nat.{◌*◌, ◌≤◌}
use lib.ListN.{length}
use Rattle.lists.specs.Lists.{table}
use Rattle.frame.specs.Doc.{doc_of}
use Rattle.grammar.specs.Tree.{tree_of, child}
use Rattle.numbers.specs.Least.{texts_of}
use Rattle.marks.specs.Marks.{marked}
use Rattle.judge.proofs.keys.mark_keys.Given as goal

abbrev pub invariant-loop-k : goal.invariant-loop-k
invariant-loop-k l = (l.k ≤ l.pairs) × ((l.at ≡ child (tree_of (doc_of l.s)) l.map (2 * l.k)) × ((length l.marks ≡ length l.initial.marks) × (l.marks ≡ marked (texts_of l.d l.s) (table (λ k. (tree_of (doc_of l.s)).text (child (tree_of (doc_of l.s)) l.map (2 * k))) 0 l.k) l.initial.marks)))
