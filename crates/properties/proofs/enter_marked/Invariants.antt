use Rattle.properties.proofs.Names.{Going}
use Rattle.properties.proofs.enter_marked.Given as goal

abbrev pub invariant-loop-k : goal.invariant-loop-k
invariant-loop-k g l = Going l.s l.d l.sizes l.i l.kind l.many l.initial.entered l.initial.done l.k l.entered l.done
