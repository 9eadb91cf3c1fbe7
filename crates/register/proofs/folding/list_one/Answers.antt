use native.Mathlib.Omega.{arith}
use mathlib.Core.Path.{sym, ◌∙◌}
use Rattle.register.proofs.Sought.{seeking-other, seeking-not, seeking-one}
use mathlib.Core.Bool.{not}
use mathlib.Core.Path.{ap}
use Rattle.register.proofs.folding.list_one.Goals as goal

pub returns-then-kind-ne-FUNCTION : goal.returns-then-kind-ne-FUNCTION
returns-then-kind-ne-FUNCTION c =
    seeking-other _ _ _ c.args.marks.now _ c.kind.ensures c.requires.seeking c.if-kind-ne-FUNCTION.true

pub is_sought-requires-clause-folding : goal.is_sought-requires-clause-folding
is_sought-requires-clause-folding c =
    c.requires.folding

pub is_sought-requires-clause-sizes_in_bounds : goal.is_sought-requires-clause-sizes_in_bounds
is_sought-requires-clause-sizes_in_bounds c =
    c.requires.sizes_in_bounds

pub is_sought-requires-clause-j_lt_tokens : goal.is_sought-requires-clause-j_lt_tokens
is_sought-requires-clause-j_lt_tokens c =
    c.requires.j_lt_tokens

pub is_sought-requires-clause-j_value : goal.is_sought-requires-clause-j_value
is_sought-requires-clause-j_value c =
    sym c.kind.ensures ∙ c.if-kind-ne-FUNCTION.false

pub returns-then-not-is_sought : goal.returns-then-not-is_sought
returns-then-not-is_sought c =
    seeking-not _ _ _ c.args.marks.now _ c.kind.ensures c.requires.seeking c.if-kind-ne-FUNCTION.false _ c.is_sought.ensures (ap not c.if-not-is_sought.true)

pub bounds-list-many : goal.bounds-list-many
bounds-list-many c =
    omega (arith, c.requires.seeking.few, c.requires.j_lt_tokens, c.requires.tokens_in_bounds)

pub returns : goal.returns
returns c =
    seeking-one _ _ _ c.args.marks.now _ c.kind.ensures c.requires.seeking c.if-kind-ne-FUNCTION.false _ c.is_sought.ensures (ap not c.if-not-is_sought.false) (omega (arith, c.requires.seeking.few, c.requires.j_lt_tokens, c.requires.tokens_in_bounds))
