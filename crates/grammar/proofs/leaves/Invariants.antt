use Prim.Native.Nat.{◌-◌}
use mathlib.Core.List.{[]}
use Rattle.frame.specs.Doc.{doc_of}
use Rattle.rules.specs.Rules.{many}
use Rattle.grammar.specs.Machine.{opened}
use Rattle.grammar.proofs.Laws.{Reading}
use Rattle.grammar.proofs.leaves.Given as goal

abbrev pub invariant-loop : goal.invariant-loop
invariant-loop l = Reading (doc_of l.s) l.r l.next (opened l.depth (many l.count l.place []) []) (opened l.depth (many (l.count - l.counter) l.place []) [])
