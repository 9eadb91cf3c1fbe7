use Prim.Native.Nat.{◌+◌, ◌*◌, ◌≤◌}
use Rattle.frame.specs.Doc.{doc_of}
use Rattle.grammar.specs.Tree.{tree_of}
use Rattle.phrase.proofs.Laws.{Rest}
use Rattle.phrase.proofs.Named.{tail_of}
use Rattle.phrase.proofs.names.put_colons.Given as goal

abbrev pub invariant-loop-k : goal.invariant-loop-k
invariant-loop-k l = (1 ≤ l.k) × (l.k ≤ l.many) × (l.end + 57360 ≤ l.initial.end + 57360 * l.k)
    × Rest (tail_of l.between (tree_of (doc_of l.s)) l.from l.many 1) l.initial.end l.initial.text (tail_of l.between (tree_of (doc_of l.s)) l.from l.many l.k)
    l.end l.text
