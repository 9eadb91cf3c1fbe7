use native.Mathlib.Omega.{arith}
use Rattle.judge.proofs.Wrote.{wrote-alike}
use Rattle.frame.specs.Doc.{doc_of}
use Rattle.judge.proofs.OfItems.{number-inside, spanned-item}
use Rattle.judge.proofs.items.put_at.Goals as goal

pub overflow_add-i : goal.overflow_add-i
overflow_add-i c =
    omega (arith, number-inside _ _ _ c.requires.sound c.requires.i_value, c.requires.sound.few_tokens)

pub value-start-requires-clause-i_lt_tokens : goal.value-start-requires-clause-i_lt_tokens
value-start-requires-clause-i_lt_tokens c =
    number-inside _ _ _ c.requires.sound c.requires.i_value

pub overflow_add-i-2 : goal.overflow_add-i-2
overflow_add-i-2 c =
    omega (arith, number-inside _ _ _ c.requires.sound c.requires.i_value_2, c.requires.sound.few_tokens)

pub value-end-requires-clause-i_lt_tokens : goal.value-end-requires-clause-i_lt_tokens
value-end-requires-clause-i_lt_tokens c =
    number-inside _ _ _ c.requires.sound c.requires.i_value_2

pub returns : goal.returns
returns c =
    wrote-alike (spanned-item (doc_of c.args.s.now) c.args.i c.args.code _ _ c.args.stage c.args.ordinal _ c.requires.i_value
    c.requires.i_value_2 c.value-start.ensures
    c.value-end.ensures) c.put_item.ensures
