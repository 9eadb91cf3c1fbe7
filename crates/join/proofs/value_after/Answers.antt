use Rattle.join.proofs.Putting.{other-value, name-value}
use Rattle.join.proofs.Stated.{name-there}
use native.Mathlib.Omega.{arith}
use mathlib.Core.Path.{sym, ◌∙◌}
use Rattle.join.proofs.value_after.Goals as goal

pub value-value-requires-clause-sound : goal.value-value-requires-clause-sound
value-value-requires-clause-sound c =
    c.requires.stated.sheet

pub value-value-requires-clause-i_lt_tokens : goal.value-value-requires-clause-i_lt_tokens
value-value-requires-clause-i_lt_tokens c =
    c.requires.i_lt_tokens

pub kind-requires-clause-sound : goal.kind-requires-clause-sound
kind-requires-clause-sound c =
    c.requires.stated.sheet

pub kind-requires-clause-i_lt_tokens : goal.kind-requires-clause-i_lt_tokens
kind-requires-clause-i_lt_tokens c =
    c.requires.i_lt_tokens

pub returns-then-kind-ne-NAME : goal.returns-then-kind-ne-NAME
returns-then-kind-ne-NAME c =
    other-value c.args.names c.value-value.ensures c.kind.ensures c.if-kind-ne-NAME.true

pub overflow_add-result : goal.overflow_add-result
overflow_add-result c =
    let v = name-there _ _ c.requires.stated _ c.requires.i_lt_tokens (sym c.kind.ensures ∙ c.if-kind-ne-NAME.false) in
    omega (arith, v, c.value-value.ensures, c.requires.names_le_max_names, c.requires.stated.within.names)

pub returns : goal.returns
returns c =
    name-value c.args.names c.value-value.ensures c.kind.ensures c.if-kind-ne-NAME.false
