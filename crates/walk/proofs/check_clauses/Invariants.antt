use Prim.Native.Nat.{◌≤◌}
use Rattle.walk.proofs.Clauses.{Reached}
use Rattle.walk.proofs.check_clauses.Given as goal

abbrev pub invariant-loop-clause : goal.invariant-loop-clause
invariant-loop-clause l = (l.clause ≤ l.clauses) × Reached l.s l.d l.from l.initial.list l.clause l.at l.count l.list
