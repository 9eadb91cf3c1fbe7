use Prim.Native.Nat.{◌-◌}
use Rattle.breach.specs.Breach.{statement_in, schema_in}
use Rattle.walk.specs.Walk.{Passing}
use Rattle.walk.proofs.pass_tokens.Given as goal

abbrev pub invariant-loop-p : goal.invariant-loop-p
invariant-loop-p l = Passing (statement_in l.s) (schema_in l.d) l.initial.p l.initial.list l.p l.list

abbrev pub decreases-loop-p : goal.decreases-loop-p
decreases-loop-p l = l.sizes.statement.tokens - l.p.next
