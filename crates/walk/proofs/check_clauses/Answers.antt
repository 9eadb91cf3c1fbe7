use borrow.Author.Rules.{rules}
use native.Mathlib.Omega.{arith}
use Prim.Native.Nat.{◌<◌}
use Rattle.judge.proofs.Wrote.{told-length}
use Rattle.walk.proofs.Clauses.{few, clause-ready, clause-few, clause-more, clauses-done, no-clause, at-most-value, at-least-value}
use Rattle.walk.proofs.Steps.{below-arity}
use Rattle.walk.proofs.check_clauses.Goals as goal

pub loop-clause-init : goal.loop-clause-init
loop-clause-init c =
    (omega arith, no-clause _ _)

pub check_clause-r-requires : goal.check_clause-r-requires
check_clause-r-requires c =
    clause-ready _ _ _ c.requires (below-arity c.loop-clause-test.true c.value-clauses.ensures) c.loop-clause.invariant.1

pub overflow_cast-tally : goal.overflow_cast-tally
overflow_cast-tally c =
    let n = clause-few _ _ _ c.requires (below-arity c.loop-clause-test.true c.value-clauses.ensures) c.loop-clause.invariant.1 in
    search rules

pub loop-clause-preserved : goal.loop-clause-preserved
loop-clause-preserved c =
    let h = below-arity c.loop-clause-test.true c.value-clauses.ensures in
    (omega arith, clause-more _ _ _ c.requires h c.loop-clause.invariant.1 c.check_clause-r.ensures)

pub overflow_cast-result : goal.overflow_cast-result
overflow_cast-result c =
    let t = clauses-done _ _ _ c.requires (at-most-value c.loop-clause.invariant.0 c.value-clauses.ensures) (at-least-value c.loop-clause-test.false c.value-clauses.ensures) c.loop-clause.invariant.1 in
    let n : c.loop-clause.count < 65536 = omega (arith, t.count, few c.requires, c.requires.sheet.few_tokens) in
    search rules

pub shape_of-list : goal.shape_of-list
shape_of-list c =
    told-length c.loop-clause.invariant.1.told

pub returns : goal.returns
returns c =
    clauses-done _ _ _ c.requires (at-most-value c.loop-clause.invariant.0 c.value-clauses.ensures) (at-least-value c.loop-clause-test.false c.value-clauses.ensures) c.loop-clause.invariant.1
