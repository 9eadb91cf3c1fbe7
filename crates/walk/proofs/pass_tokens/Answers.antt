use native.Mathlib.Omega.{arith}
use mathlib.Core.Path.{sym, ap, ◌∙◌}
use Rattle.breach.specs.Breach.{is_element}
use Rattle.grammar.proofs.Flat.{tree-kind}
use Rattle.walk.proofs.Expressions.{passing-join, passing-start, passing-ready, next-root, next_here, next-room, token-passed, at-pattern, none_left}
use Rattle.walk.proofs.pass_tokens.Goals as goal

pub loop-p-init : goal.loop-p-init
loop-p-init c =
    passing-start c.requires

pub kind-requires-clause-sound : goal.kind-requires-clause-sound
kind-requires-clause-sound c =
    let z = passing-ready c.requires c.loop-p.invariant in z.lent.sheet

pub kind-requires-clause-i_lt_tokens : goal.kind-requires-clause-i_lt_tokens
kind-requires-clause-i_lt_tokens c =
    let z = passing-ready c.requires c.loop-p.invariant in next_here z c.loop-p-test.true

pub returns-else-kind-ne-PATTERN : goal.returns-else-kind-ne-PATTERN
returns-else-kind-ne-PATTERN c =
    at-pattern _ _ c.loop-p.invariant c.kind.ensures c.if-kind-ne-PATTERN.false

pub check_token-o-requires-clause-lent : goal.check_token-o-requires-clause-lent
check_token-o-requires-clause-lent c =
    let z = passing-ready c.requires c.loop-p.invariant in z.lent

pub check_token-o-requires-clause-i_lt_tokens : goal.check_token-o-requires-clause-i_lt_tokens
check_token-o-requires-clause-i_lt_tokens c =
    let z = passing-ready c.requires c.loop-p.invariant in next_here z c.loop-p-test.true

pub check_token-o-requires-clause-i_value : goal.check_token-o-requires-clause-i_value
check_token-o-requires-clause-i_value c =
    let z = passing-ready c.requires c.loop-p.invariant in ap is_element (sym (tree-kind _ _)) ∙ (next-root z c.loop-p-test.true).no_element

pub check_token-o-requires-clause-count_lt_half_count : goal.check_token-o-requires-clause-count_lt_half_count
check_token-o-requires-clause-count_lt_half_count c =
    let z = passing-ready c.requires c.loop-p.invariant in next-room z c.loop-p-test.true

pub overflow_add-p-in-loop-p : goal.overflow_add-p-in-loop-p
overflow_add-p-in-loop-p c =
    let z = passing-ready c.requires c.loop-p.invariant in
    omega (arith, z.few, z.here, z.lent.sheet.few_tokens, c.check_token-o.ensures.few)

pub overflow_add-p : goal.overflow_add-p
overflow_add-p c =
    let z = passing-ready c.requires c.loop-p.invariant in
    omega (arith, z.here, z.lent.sheet.few_tokens)

pub loop-p-smaller : goal.loop-p-smaller
loop-p-smaller c =
    omega (arith, next_here (passing-ready c.requires c.loop-p.invariant) c.loop-p-test.true)

pub loop-p-preserved : goal.loop-p-preserved
loop-p-preserved c =
    passing-join _ _ c.loop-p.invariant (token-passed (passing-ready c.requires c.loop-p.invariant) c.loop-p-test.true c.kind.ensures
    c.if-kind-ne-PATTERN.true c.check_token-o.ensures)

pub returns-after-loop-p : goal.returns-after-loop-p
returns-after-loop-p c =
    none_left _ _ c.loop-p.invariant c.loop-p-test.false
