use native.Mathlib.Omega.{arith}
use mathlib.Core.Path.{refl, ◌∙◌}
use mathlib.Core.List.{[]}
use Rattle.grammar.proofs.Laws.{begin, on, stop, done, one_more_lem, no_more, all-more, resume, inside-next, refuses, fault-is, leaf-next, read_next, token-read, stays}
use Rattle.grammar.proofs.leaves.Goals as goal

pub returns-then-r-ge-REFUSALS : goal.returns-then-r-ge-REFUSALS
returns-then-r-ge-REFUSALS c =
    stays _ _ _ c.if-r-ge-REFUSALS.true

pub loop-init : goal.loop-init
loop-init c =
    begin (all-more _ _ _) (omega (arith, inside-next c.requires.resumes.inside (read_next _ c.if-r-ge-REFUSALS.false), c.requires.resumes.sheet.tokens))

pub judge-requires : goal.judge-requires
judge-requires c =
    c.requires.resumes.sheet

pub refused-requires-clause-number_nonzero : goal.refused-requires-clause-number_nonzero
refused-requires-clause-number_nonzero c =
    let w = fault-is _ _ _ _ c.judge.ensures c.in-Some.is in (w.0, w.1.0)

pub refused-requires-clause-place_lt_refusals : goal.refused-requires-clause-place_lt_refusals
refused-requires-clause-place_lt_refusals c =
    let w = fault-is _ _ _ _ c.judge.ensures c.in-Some.is in omega (arith, w.1.1, c.loop.invariant.inside, c.requires.resumes.sheet.tokens, c.requires.resumes.sheet.few_tokens)

pub returns-in-Some : goal.returns-in-Some
returns-in-Some c =
    resume _ _ (read_next _ c.if-r-ge-REFUSALS.false)
    (c.refused.ensures ∙ stop c.loop.invariant _ _ (one_more_lem _ _ _ _ c.loop-test.true)
    (refuses _ _ _ _ [] c.judge.ensures c.in-Some.is) refl)

pub overflow_add-next : goal.overflow_add-next
overflow_add-next c =
    omega (arith, c.loop.invariant.inside, c.requires.resumes.sheet.tokens, c.requires.resumes.sheet.few_tokens)

pub loop-preserved : goal.loop-preserved
loop-preserved c =
    on c.loop.invariant _ _ (one_more_lem _ _ _ _ c.loop-test.true)
    (leaf-next _ _ _ _ c.requires.leaf c.judge.ensures c.in_default.is) refl

pub returns : goal.returns
returns c =
    resume _ _ (read_next _ c.if-r-ge-REFUSALS.false)
    (token-read c.requires.resumes.sheet (omega (arith, c.loop.invariant.inside, c.requires.resumes.sheet.tokens))
    ∙ done c.loop.invariant (no_more _ _ _ _ c.loop-test.false))
