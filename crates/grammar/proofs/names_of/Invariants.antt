use Prim.Native.Nat.{◌-◌}
use mathlib.Core.List.{[]}
use Rattle.frame.specs.Doc.{doc_of}
use Rattle.rules.specs.Rules.{many}
use Rattle.grammar.specs.Machine.{opened}
use Rattle.rules.specs.declared.Place.TheVariants.{Name}
use Rattle.grammar.proofs.Laws.{Reading}
use Rattle.grammar.proofs.names_of.Given as goal

abbrev pub invariant-loop-k : goal.invariant-loop-k
invariant-loop-k l = Reading (doc_of l.s) l.r l.next (opened l.depth (many l.count Name []) []) (opened l.depth (many (l.count - l.k) Name []) [])
