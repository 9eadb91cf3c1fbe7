use Prim.Native.Nat.{suc, ◌+◌, ◌*◌, ◌-◌}
use Rattle.breach.specs.Breach.{statement_in, schema_in}
use mathlib.Core.Path.{◌≡◌}
use Rattle.lists.specs.Lists.{over}
use Rattle.grammar.specs.Tree.{past}
use Rattle.judge.specs.Window.{WroteItems}
use Rattle.walk.specs.Walk.{said, Passed}
use Rattle.walk.proofs.+check_element_check_expr_check_part_check_pattern.Given as goal

abbrev pub decreases-check_element : goal.decreases-check_element
decreases-check_element l = 2 * (l.sizes.statement.tokens - l.i) + 1

abbrev pub decreases-check_expr : goal.decreases-check_expr
decreases-check_expr l = 2 * (l.sizes.statement.tokens - l.i)

abbrev pub decreases-check_part : goal.decreases-check_part
decreases-check_part l = 2 * (l.sizes.statement.tokens - l.i) + 1

abbrev pub decreases-check_pattern : goal.decreases-check_pattern
decreases-check_pattern l = 2 * (l.sizes.statement.tokens - l.i) + 1

abbrev pub invariant-check_expr-loop-p : goal.invariant-check_expr-loop-p
invariant-check_expr-loop-p l = Passed (statement_in l.s) (schema_in l.d) l.initial.p l.initial.list l.p l.list

abbrev pub decreases-check_expr-loop-p : goal.decreases-check_expr-loop-p
decreases-check_expr-loop-p l = l.sizes.statement.tokens - l.p.next

abbrev pub invariant-check_part-loop : goal.invariant-check_part-loop
invariant-check_part-loop l = (l.step.next ≡ past (statement_in l.s) l.counter (suc l.i)) × WroteItems
    (over (said l.c.later (statement_in l.s) (schema_in l.d)) (suc l.i) l.step.next) l.initial.step.tally l.initial.list l.step.tally l.list

abbrev pub invariant-check_pattern-loop : goal.invariant-check_pattern-loop
invariant-check_pattern-loop l = (l.step.next ≡ past (statement_in l.s) l.counter (suc l.i)) × WroteItems
    (over (said (l.later) (statement_in l.s) (schema_in l.d)) (suc l.i) l.step.next) l.initial.step.tally l.initial.list l.step.tally l.list
