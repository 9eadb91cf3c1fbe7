use native.Mathlib.Omega.{arith}
use mathlib.Core.Path.{◌∙◌}
use Rattle.grammar.proofs.Laws.{token-read, from-inside-next}
use Rattle.grammar.proofs.span.Goals as goal

pub is_span-requires : goal.is_span-requires
is_span-requires c =
    c.requires.sheet

pub overflow_add-result : goal.overflow_add-result
overflow_add-result c =
    omega (arith, c.requires.inside, c.requires.sheet.few_tokens)

pub returns-then-is_span : goal.returns-then-is_span
returns-then-is_span c =
    let e = c.is_span.ensures c.if-is_span.true in
    token-read c.requires.sheet (from-inside-next c.requires.sheet c.requires.inside _ e) ∙ e

pub ends-requires : goal.ends-requires
ends-requires c =
    c.requires

pub returns : goal.returns
returns c =
    c.ends.ensures
