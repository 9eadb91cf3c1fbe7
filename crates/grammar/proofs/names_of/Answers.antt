use native.Mathlib.Omega.{arith}
use mathlib.Core.Path.{refl, ◌∙◌}
use Rattle.grammar.proofs.Laws.{begin, on, rest_of, done, one_more_lem, no_more, all-more, resume, inside-next, read_next, token-read, resumes-at, starts, stays}
use Rattle.grammar.proofs.Below.{leaf-name}
use Rattle.grammar.proofs.names_of.Goals as goal

pub returns-then-r-ge-REFUSALS : goal.returns-then-r-ge-REFUSALS
returns-then-r-ge-REFUSALS c =
    stays _ _ _ c.if-r-ge-REFUSALS.true

pub loop-k-init : goal.loop-k-init
loop-k-init c =
    begin (all-more _ _ _) (omega (arith, inside-next c.requires.inside (read_next _ c.if-r-ge-REFUSALS.false), c.requires.sheet.tokens))

pub is_name-requires : goal.is_name-requires
is_name-requires c =
    c.requires.sheet

pub leaves-requires-clause-resumes : goal.leaves-requires-clause-resumes
leaves-requires-clause-resumes c =
    resumes-at c.requires.sheet (omega (arith, c.loop-k.invariant.inside, c.requires.sheet.tokens))

pub leaves-requires-clause-leaf : goal.leaves-requires-clause-leaf
leaves-requires-clause-leaf c =
    leaf-name

pub returns-then-not-is_name : goal.returns-then-not-is_name
returns-then-not-is_name c =
    resume _ _ (read_next _ c.if-r-ge-REFUSALS.false)
    (rest_of c.loop-k.invariant (starts c.requires.sheet (omega (arith, c.loop-k.invariant.inside, c.requires.sheet.tokens)) _ c.leaves.ensures))

pub overflow_add-next : goal.overflow_add-next
overflow_add-next c =
    omega (arith, c.loop-k.invariant.inside, c.requires.sheet.tokens, c.requires.sheet.few_tokens)

pub loop-k-preserved : goal.loop-k-preserved
loop-k-preserved c =
    on c.loop-k.invariant _ _ (one_more_lem _ _ _ _ c.loop-k-test.true)
    (c.is_name.ensures c.if-not-is_name.false) refl

pub returns : goal.returns
returns c =
    resume _ _ (read_next _ c.if-r-ge-REFUSALS.false)
    (token-read c.requires.sheet (omega (arith, c.loop-k.invariant.inside, c.requires.sheet.tokens))
    ∙ done c.loop-k.invariant (no_more _ _ _ _ c.loop-k-test.false))
