use Rattle.row_writer.proofs.Pairs.{pairing-start, pairing-room, pairing-turn, pairing-last}
use Rattle.row_writer.proofs.Headers.{end-bounds}
use native.Mathlib.Omega.{arith}
use mathlib.Core.Path.{◌∙◌}
use Rattle.row_writer.proofs.columns.put_columns.Goals as goal

pub loop-at-init : goal.loop-at-init
loop-at-init c =
    (omega arith, pairing-start _ _ _)

pub slice_bounds-kind-count : goal.slice_bounds-kind-count
slice_bounds-kind-count c =
    let e = end-bounds _ _ _ c.loop-at-test.true c.cell_end-end.ensures in
    omega (arith, e.0, e.1)

pub slice_bounds-kind-start : goal.slice_bounds-kind-start
slice_bounds-kind-start c =
    let e = end-bounds _ _ _ c.loop-at-test.true c.cell_end-end.ensures in
    omega (arith, e.0, e.1)

pub slice_bounds-kind-end : goal.slice_bounds-kind-end
slice_bounds-kind-end c =
    let e = end-bounds _ _ _ c.loop-at-test.true c.cell_end-end.ensures in
    omega (arith, e.0, e.1)

pub put_token-requires-clause-f_in_bounds : goal.put_token-requires-clause-f_in_bounds
put_token-requires-clause-f_in_bounds c =
    let room = pairing-room _ _ _ c.loop-at.invariant.1 _ c.loop-at-test.true c.cell_end-end.ensures in omega (arith, c.requires.f_in_bounds, c.loop-at.invariant.1.size)

pub put_token-requires-clause-i_lt_tokens : goal.put_token-requires-clause-i_lt_tokens
put_token-requires-clause-i_lt_tokens c =
    let room = pairing-room _ _ _ c.loop-at.invariant.1 _ c.loop-at-test.true c.cell_end-end.ensures in omega (arith, c.requires.row_bound, room)

pub overflow_add-i : goal.overflow_add-i
overflow_add-i c =
    let room = pairing-room _ _ _ c.loop-at.invariant.1 _ c.loop-at-test.true c.cell_end-end.ensures in
    omega (arith, c.requires.row_bound, room)

pub put_token-requires-in-loop-at-clause-f_in_bounds : goal.put_token-requires-in-loop-at-clause-f_in_bounds
put_token-requires-in-loop-at-clause-f_in_bounds c =
    let room = pairing-room _ _ _ c.loop-at.invariant.1 _ c.loop-at-test.true c.cell_end-end.ensures in omega (arith, c.requires.f_in_bounds, c.loop-at.invariant.1.size, c.put_token.auto.out)

pub put_token-requires-in-loop-at-clause-i_lt_tokens : goal.put_token-requires-in-loop-at-clause-i_lt_tokens
put_token-requires-in-loop-at-clause-i_lt_tokens c =
    let room = pairing-room _ _ _ c.loop-at.invariant.1 _ c.loop-at-test.true c.cell_end-end.ensures in omega (arith, c.requires.row_bound, room)

pub overflow_add-at : goal.overflow_add-at
overflow_add-at c =
    let e = end-bounds _ _ _ c.loop-at-test.true c.cell_end-end.ensures in
    omega (arith, e.0, e.1)

pub overflow_add-i-in-loop-at : goal.overflow_add-i-in-loop-at
overflow_add-i-in-loop-at c =
    let room = pairing-room _ _ _ c.loop-at.invariant.1 _ c.loop-at-test.true c.cell_end-end.ensures in
    omega (arith, c.requires.row_bound, room)

pub overflow_add-k : goal.overflow_add-k
overflow_add-k c =
    let room = pairing-room _ _ _ c.loop-at.invariant.1 _ c.loop-at-test.true c.cell_end-end.ensures in
    omega (arith, c.requires.row_bound, room, c.loop-at.invariant.1.number, c.loop-at.invariant.1.place)

pub loop-at-smaller : goal.loop-at-smaller
loop-at-smaller c =
    let e = end-bounds _ _ _ c.loop-at-test.true c.cell_end-end.ensures in
    omega (arith, e.0, e.1)

pub loop-at-preserved : goal.loop-at-preserved
loop-at-preserved c = (
  omega (arith, (end-bounds _ _ _ c.loop-at-test.true c.cell_end-end.ensures).1),
  pairing-turn _ _ _ c.loop-at.invariant.1 _ c.loop-at-test.true c.cell_end-end.ensures _ _ _ c.kind-kind.ensures
      c.put_token.ensures c.put_token-in-loop-at.ensures
      (c.put_token-in-loop-at.auto.out ∙ c.put_token.auto.out),
)

pub shape_of-out : goal.shape_of-out
shape_of-out c =
    c.loop-at.invariant.1.size

pub returns : goal.returns
returns c =
    pairing-last _ _ _ c.loop-at.invariant.1 c.loop-at-test.false
