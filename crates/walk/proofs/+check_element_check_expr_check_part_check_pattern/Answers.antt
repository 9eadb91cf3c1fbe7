use native.Mathlib.Omega.{arith}
use mathlib.Core.Path.{◌∙◌}
use Rattle.walk.proofs.Steps.{left_out}
use Rattle.walk.proofs.Parts.{element-holds, early-below, early-whole}
use mathlib.Core.Path.{sym, ◌∙◌}
use Rattle.grammar.proofs.Flat.{tree-kind}
use Rattle.walk.proofs.Expressions.{first-ready, passing-start, passing-ready, passing-join, pattern-ready, pattern-passed, goes_on_lem, next_here, stops-again, all-passed}
use mathlib.Core.Logic.{inr}
use mathlib.Core.List.{[]}
use Rattle.walk.proofs.Steps.{at-inside, after-own, below-arity, room-below, room-child, none-own, none_yet, one_more_lem, all_done, whole-tree}
use Rattle.walk.proofs.Parts.{element-at, element-held}
use mathlib.Core.Logic.{inl}
use Rattle.walk.proofs.Parts.{pattern-first, part_at, part_held}
use Rattle.walk.proofs.+check_element_check_expr_check_part_check_pattern.Goals as goal

-- The needs of `check_element`.
pub check_element-check_node_props-tallied-requires : goal.check_element-check_node_props-tallied-requires
check_element-check_node_props-tallied-requires t c =
    record { tree_ready = c.requires.tree_ready; i_value = c.requires.i_value; holder_value = c.requires.holder_value }

pub check_element-skip-requires : goal.check_element-skip-requires
check_element-skip-requires t c =
    record { sound = c.requires.tree_ready.lent.sheet; s_value = c.requires.tree_ready.lent.read; i_lt_tokens = c.requires.tree_ready.here }

pub check_element-returns-then-c : goal.check_element-returns-then-c
check_element-returns-then-c t c =
    left_out _ _ _ _ _ _ _ c.if-c.true c.requires.i_value c.requires.tree_ready c.skip.ensures c.check_node_props-tallied.ensures

pub check_element-check_expr-requires : goal.check_element-check_expr-requires
check_element-check_expr-requires t c =
    (omega (arith, c.decreases), (early-below _ _ _ _ _ _ _ c.if-c.false c.requires.tree_ready c.check_node_props-tallied.ensures, element-holds _ c.requires.i_value))

pub check_element-returns : goal.check_element-returns
check_element-returns t c =
    early-whole _ _ _ _ _ _ _ c.if-c.false c.requires.tree_ready c.check_node_props-tallied.ensures c.check_expr.ensures

pub check_expr-arity_of-requires : goal.check_expr-arity_of-requires
check_expr-arity_of-requires t c =
    record { sound = c.requires.below_ready.lent.sheet; s_value = c.requires.below_ready.lent.read; i_lt_tokens = c.requires.below_ready.here }

pub check_expr-pass_tokens-p-requires : goal.check_expr-pass_tokens-p-requires
check_expr-pass_tokens-p-requires t c =
    first-ready c.requires.below_ready c.arity_of.ensures.0 c.requires.i_value c.arity_of.ensures.1

pub check_expr-loop-p-init : goal.check_expr-loop-p-init
check_expr-loop-p-init t c =
    record { passing = passing-start (passing-ready (first-ready c.requires.below_ready c.arity_of.ensures.0 c.requires.i_value c.arity_of.ensures.1) c.pass_tokens-p.ensures.passing); stop = c.pass_tokens-p.ensures.stop }

pub check_expr-check_pattern-r-requires : goal.check_expr-check_pattern-r-requires
check_expr-check_pattern-r-requires t c =
    let z = passing-ready (passing-ready (first-ready c.requires.below_ready c.arity_of.ensures.0 c.requires.i_value c.arity_of.ensures.1) c.pass_tokens-p.ensures.passing) c.loop-p.invariant.passing in (omega (arith, c.decreases, next_here z c.loop-p-test.true, c.loop-p.invariant.passing.on, c.pass_tokens-p.ensures.passing.on), (pattern-ready z c.loop-p-test.true, sym (tree-kind _ _) ∙ c.loop-p.invariant.stop c.loop-p-test.true))

pub check_expr-pass_tokens-p-requires-in-loop-p : goal.check_expr-pass_tokens-p-requires-in-loop-p
check_expr-pass_tokens-p-requires-in-loop-p t c =
    let z = passing-ready (passing-ready (first-ready c.requires.below_ready c.arity_of.ensures.0 c.requires.i_value c.arity_of.ensures.1) c.pass_tokens-p.ensures.passing) c.loop-p.invariant.passing in passing-ready z (pattern-passed z c.loop-p-test.true c.check_pattern-r.ensures)

pub check_expr-loop-p-smaller : goal.check_expr-loop-p-smaller
check_expr-loop-p-smaller t c =
    let z = passing-ready (passing-ready (first-ready c.requires.below_ready c.arity_of.ensures.0 c.requires.i_value c.arity_of.ensures.1) c.pass_tokens-p.ensures.passing) c.loop-p.invariant.passing in omega (arith, next_here z c.loop-p-test.true, goes_on_lem z c.loop-p-test.true c.check_pattern-r.ensures, c.pass_tokens-p-in-loop-p.ensures.passing.on)

pub check_expr-loop-p-preserved : goal.check_expr-loop-p-preserved
check_expr-loop-p-preserved t c =
    let z = passing-ready (passing-ready (first-ready c.requires.below_ready c.arity_of.ensures.0 c.requires.i_value c.arity_of.ensures.1) c.pass_tokens-p.ensures.passing) c.loop-p.invariant.passing in stops-again _ _ (passing-join _ _ c.loop-p.invariant.passing (pattern-passed z c.loop-p-test.true c.check_pattern-r.ensures)) c.pass_tokens-p-in-loop-p.ensures

pub check_expr-returns : goal.check_expr-returns
check_expr-returns t c =
    all-passed c.requires.below_ready c.arity_of.ensures.0 (stops-again _ _ c.pass_tokens-p.ensures.passing c.loop-p.invariant) c.loop-p-test.false

pub check_part-arity_of-many-requires : goal.check_part-arity_of-many-requires
check_part-arity_of-many-requires t c =
    record { sound = c.requires.tree_ready.lent.sheet; s_value = c.requires.tree_ready.lent.read; i_lt_tokens = c.requires.tree_ready.here }

pub check_part-loop-init : goal.check_part-loop-init
check_part-loop-init t c =
    none_yet _ _ _ _ _ _

pub check_part-check_element-step-requires : goal.check_part-check_element-step-requires
check_part-check_element-step-requires t c =
    let h = below-arity c.loop-test.true c.arity_of-many.ensures.0 in (
      omega (arith, c.decreases, after-own c.requires.tree_ready.lent _ _ _ c.requires.tree_ready.here h c.loop.invariant.0, at-inside c.requires.tree_ready.lent _ _ _ c.requires.tree_ready.here h c.loop.invariant.0),
      (
        room-child _ _ _ _ _ _ _ (room-below _ _ _ _ _ _ [] c.requires.tree_ready (none-own _ _ _ _ _ [] (inr c.requires.i_value))) h c.loop.invariant.0 c.loop.invariant.1,
        (element-at c.requires.tree_ready.lent _ c.requires.tree_ready.here _ _ h c.loop.invariant.0 c.requires.i_value, element-held c.requires.tree_ready.lent _ c.requires.tree_ready.here _ _ h c.loop.invariant.0 c.requires.holder_value),
      ),
    )

pub check_part-loop-preserved : goal.check_part-loop-preserved
check_part-loop-preserved t c =
    let h = below-arity c.loop-test.true c.arity_of-many.ensures.0 in
    one_more_lem _ _ _ _ _ _ _ c.requires.tree_ready.lent c.requires.tree_ready.here h c.loop.invariant.0 c.loop.invariant.1 c.check_element-step.ensures

pub check_part-returns : goal.check_part-returns
check_part-returns t c =
    whole-tree _ _ _ _ _ _ _ c.requires.tree_ready (none-own _ _ _ _ _ _ (inr c.requires.i_value))
    (all_done _ _ _ _ _ _ _ c.requires.tree_ready.lent c.requires.tree_ready.here c.arity_of-many.ensures.0 (omega arith) c.loop-test.false c.loop.invariant.0 c.loop.invariant.1)

pub check_pattern-overflow_sub-i : goal.check_pattern-overflow_sub-i
check_pattern-overflow_sub-i t c =
    omega (arith, pattern-first c.requires.tree_ready.lent _ c.requires.tree_ready.here c.requires.i_value)

pub check_pattern-kind-requires : goal.check_pattern-kind-requires
check_pattern-kind-requires t c =
    record { sound = c.requires.tree_ready.lent.sheet; i_lt_tokens = omega (arith, c.requires.tree_ready.here) }

pub check_pattern-arity_of-many-requires : goal.check_pattern-arity_of-many-requires
check_pattern-arity_of-many-requires t c =
    record { sound = c.requires.tree_ready.lent.sheet; s_value = c.requires.tree_ready.lent.read; i_lt_tokens = c.requires.tree_ready.here }

pub check_pattern-loop-init : goal.check_pattern-loop-init
check_pattern-loop-init t c =
    none_yet _ _ _ _ _ _

pub check_pattern-check_part-step-requires : goal.check_pattern-check_part-step-requires
check_pattern-check_part-step-requires t c =
    let h = below-arity c.loop-test.true c.arity_of-many.ensures.0 in (
      omega (arith, c.decreases, after-own c.requires.tree_ready.lent _ _ _ c.requires.tree_ready.here h c.loop.invariant.0, at-inside c.requires.tree_ready.lent _ _ _ c.requires.tree_ready.here h c.loop.invariant.0),
      (
        room-child _ _ _ _ _ _ _ (room-below _ _ _ _ _ _ [] c.requires.tree_ready (none-own _ _ _ _ _ [] (inl c.requires.i_value))) h c.loop.invariant.0 c.loop.invariant.1,
        (part_at c.requires.tree_ready.lent _ c.requires.tree_ready.here _ _ h c.loop.invariant.0 c.requires.i_value, part_held c.requires.tree_ready.lent _ c.requires.tree_ready.here _ _ h c.loop.invariant.0 c.requires.i_value c.kind.ensures),
      ),
    )

pub check_pattern-loop-preserved : goal.check_pattern-loop-preserved
check_pattern-loop-preserved t c =
    let h = below-arity c.loop-test.true c.arity_of-many.ensures.0 in
    one_more_lem _ _ _ _ _ _ _ c.requires.tree_ready.lent c.requires.tree_ready.here h c.loop.invariant.0 c.loop.invariant.1 c.check_part-step.ensures

pub check_pattern-returns : goal.check_pattern-returns
check_pattern-returns t c =
    whole-tree _ _ _ _ _ _ _ c.requires.tree_ready (none-own _ _ _ _ _ _ (inl c.requires.i_value))
    (all_done _ _ _ _ _ _ _ c.requires.tree_ready.lent c.requires.tree_ready.here c.arity_of-many.ensures.0 (omega arith) c.loop-test.false c.loop.invariant.0 c.loop.invariant.1)
