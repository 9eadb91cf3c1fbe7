use Rattle.in_order.proofs.Marks.{Listing}
use Rattle.in_order.proofs.once.list_with.Given as goal

abbrev pub invariant-loop-k : goal.invariant-loop-k
invariant-loop-k l = Listing l.numbers l.initial.marks l.initial.list l.k-index l.marks l.many l.list
