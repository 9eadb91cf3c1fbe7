use borrow.Author.Rules.{rules}
use Rattle.row_writer.proofs.Putting.{undouble-start, undouble-room, undouble-turn, undouble-last}
use native.Mathlib.Omega.{arith}
use Rattle.row_writer.proofs.names.put_undoubled.Goals as goal

pub loop-i-init : goal.loop-i-init
loop-i-init c =
    (omega arith, undouble-start _ _ _ _)

pub put_byte-requires-clause-f_in_bounds : goal.put_byte-requires-clause-f_in_bounds
put_byte-requires-clause-f_in_bounds c =
    let room = undouble-room _ _ _ _ c.loop-i.invariant.1 c.loop-i-test.true in omega (arith, c.requires.f_in_bounds, c.loop-i.invariant.1.size)

pub put_byte-requires-clause-at_lt_text : goal.put_byte-requires-clause-at_lt_text
put_byte-requires-clause-at_lt_text c =
    let room = undouble-room _ _ _ _ c.loop-i.invariant.1 c.loop-i-test.true in omega (arith, c.requires.s_bound, room)

pub overflow_add-to : goal.overflow_add-to
overflow_add-to c =
    let room = undouble-room _ _ _ _ c.loop-i.invariant.1 c.loop-i-test.true in
    omega (arith, c.requires.s_bound, room)

pub loop-i-preserved : goal.loop-i-preserved
loop-i-preserved c = (
  search rules,
  undouble-turn _ _ _ _ c.loop-i.invariant.1 _ _ c.loop-i-test.true c.put_byte.ensures
      c.put_byte.auto.out c.width-i.ensures.0,
)

pub shape_of-out : goal.shape_of-out
shape_of-out c =
    c.loop-i.invariant.1.size

pub returns : goal.returns
returns c =
    undouble-last _ _ _ _ c.loop-i.invariant.1 c.loop-i-test.false
