use native.Mathlib.Omega.{arith}
use Rattle.phrase.proofs.Laws.{put-length}
use Rattle.message.proofs.Answered.{too_long, all_said}
use Rattle.message.proofs.message_fitted.Goals as goal

pub put_message-size-requires-clause-lent : goal.put_message-size-requires-clause-lent
put_message-size-requires-clause-lent c =
    c.requires.lent

pub put_message-size-requires-clause-fact : goal.put_message-size-requires-clause-fact
put_message-size-requires-clause-fact c =
    c.requires.fact

pub returns-then-text-size : goal.returns-then-text-size
returns-then-text-size c =
    too_long c.put_message-size.ensures.0
    c.args.text.now c.if-text-size.true
    c.refused.ensures

pub put_message-written-requires-clause-lent : goal.put_message-written-requires-clause-lent
put_message-written-requires-clause-lent c =
    c.requires.lent

pub put_message-written-requires-clause-fact : goal.put_message-written-requires-clause-fact
put_message-written-requires-clause-fact c =
    c.requires.fact

pub overflow_cast-result : goal.overflow_cast-result
overflow_cast-result c =
    omega (arith, c.put_message-written.ensures.1)

pub shape_of-text : goal.shape_of-text
shape_of-text c =
    put-length c.put_message-written.ensures.0

pub returns : goal.returns
returns c =
    all_said c.put_message-size.ensures.0
    c.args.text.now
    c.if-text-size.false c.put_message-written.ensures.0
