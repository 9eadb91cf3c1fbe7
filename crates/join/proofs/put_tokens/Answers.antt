use Rattle.join.proofs.Putting.{putting-start, putting-turn, putting-last}
use native.Mathlib.Omega.{arith}
use Rattle.join.proofs.put_tokens.Goals as goal

pub loop-i-init : goal.loop-i-init
loop-i-init c =
    putting-start _ _ _ _ (omega (arith, c.requires.stated.sheet.tokens, c.requires.stated.sheet.some_tokens))

pub kind-kind-requires-clause-sound : goal.kind-kind-requires-clause-sound
kind-kind-requires-clause-sound c =
    c.requires.stated.sheet

pub kind-kind-requires-clause-i_lt_tokens : goal.kind-kind-requires-clause-i_lt_tokens
kind-kind-requires-clause-i_lt_tokens c =
    c.loop-i-test.true

pub value_after-value-requires-clause-stated : goal.value_after-value-requires-clause-stated
value_after-value-requires-clause-stated c =
    c.requires.stated

pub value_after-value-requires-clause-i_lt_tokens : goal.value_after-value-requires-clause-i_lt_tokens
value_after-value-requires-clause-i_lt_tokens c =
    c.loop-i-test.true

pub value_after-value-requires-clause-names_le_max_names : goal.value_after-value-requires-clause-names_le_max_names
value_after-value-requires-clause-names_le_max_names c =
    omega (arith, c.requires.follows.names, c.requires.few.names)

pub put_token-requires-clause-f_in_bounds : goal.put_token-requires-clause-f_in_bounds
put_token-requires-clause-f_in_bounds c =
    omega (arith, c.requires.h_in_bounds, c.loop-i.invariant.size)

pub put_token-requires-clause-i_lt_tokens : goal.put_token-requires-clause-i_lt_tokens
put_token-requires-clause-i_lt_tokens c =
    omega (arith, c.loop-i.invariant.place, c.loop-i.invariant.number, c.requires.follows.tokens, c.loop-i-test.true)

pub overflow_add-at : goal.overflow_add-at
overflow_add-at c =
    omega (arith, c.loop-i.invariant.place, c.loop-i.invariant.number, c.requires.follows.tokens, c.requires.few.tokens, c.loop-i-test.true)

pub loop-i-preserved : goal.loop-i-preserved
loop-i-preserved c =
    putting-turn _ _ _ _ c.loop-i.invariant _ _ _ (omega (arith, c.loop-i-test.true, c.requires.stated.sheet.tokens)) c.kind-kind.ensures
    c.value_after-value.ensures c.put_token.ensures c.put_token.auto.out

pub shape_of-out : goal.shape_of-out
shape_of-out c =
    c.loop-i.invariant.size

pub returns : goal.returns
returns c =
    putting-last _ _ _ _ c.loop-i.invariant (omega (arith, c.loop-i-test.false, c.requires.stated.sheet.tokens))
