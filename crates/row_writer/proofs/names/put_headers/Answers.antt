use Rattle.row_writer.proofs.Putting.{heading-start, heading-room, heading-turn, heading-last}
use Rattle.row_writer.proofs.Headers.{end-bounds}
use native.Mathlib.Omega.{arith}
use mathlib.Core.Path.{◌∙◌}
use Rattle.row_writer.proofs.names.put_headers.Goals as goal

pub loop-at-init : goal.loop-at-init
loop-at-init c =
    (omega arith, heading-start _ _ _ _)

pub slice_bounds-put_content-count : goal.slice_bounds-put_content-count
slice_bounds-put_content-count c =
    let e = end-bounds _ _ _ c.loop-at-test.true c.cell_end-stop.ensures in
    omega (arith, e.0, e.1)

pub slice_bounds-put_content-start : goal.slice_bounds-put_content-start
slice_bounds-put_content-start c =
    let e = end-bounds _ _ _ c.loop-at-test.true c.cell_end-stop.ensures in
    omega (arith, e.0, e.1)

pub slice_bounds-put_content-end : goal.slice_bounds-put_content-end
slice_bounds-put_content-end c =
    let e = end-bounds _ _ _ c.loop-at-test.true c.cell_end-stop.ensures in
    omega (arith, e.0, e.1)

pub put_content-end-requires-clause-f_in_bounds : goal.put_content-end-requires-clause-f_in_bounds
put_content-end-requires-clause-f_in_bounds c =
    let room = heading-room _ _ _ _ c.loop-at.invariant.1 _ c.loop-at-test.true c.cell_end-stop.ensures in omega (arith, c.requires.f_in_bounds, c.loop-at.invariant.1.size)

pub put_content-end-requires-clause-raw_bound : goal.put_content-end-requires-clause-raw_bound
put_content-end-requires-clause-raw_bound c =
    let room = heading-room _ _ _ _ c.loop-at.invariant.1 _ c.loop-at-test.true c.cell_end-stop.ensures in omega (arith, c.requires.header_bound_2, room.1)

pub put_end-requires-clause-f_in_bounds : goal.put_end-requires-clause-f_in_bounds
put_end-requires-clause-f_in_bounds c =
    let room = heading-room _ _ _ _ c.loop-at.invariant.1 _ c.loop-at-test.true c.cell_end-stop.ensures in omega (arith, c.requires.f_in_bounds, c.loop-at.invariant.1.size, c.put_content-end.auto.out)

pub put_end-requires-clause-k_lt_names : goal.put_end-requires-clause-k_lt_names
put_end-requires-clause-k_lt_names c =
    let room = heading-room _ _ _ _ c.loop-at.invariant.1 _ c.loop-at-test.true c.cell_end-stop.ensures in omega (arith, c.requires.header_bound, room.0)

pub overflow_add-at : goal.overflow_add-at
overflow_add-at c =
    let e = end-bounds _ _ _ c.loop-at-test.true c.cell_end-stop.ensures in
    omega (arith, e.0, e.1)

pub overflow_add-k : goal.overflow_add-k
overflow_add-k c =
    let room = heading-room _ _ _ _ c.loop-at.invariant.1 _ c.loop-at-test.true c.cell_end-stop.ensures in
    omega (arith, c.requires.header_bound, room.0)

pub loop-at-smaller : goal.loop-at-smaller
loop-at-smaller c =
    let e = end-bounds _ _ _ c.loop-at-test.true c.cell_end-stop.ensures in
    omega (arith, e.0, e.1)

pub loop-at-preserved : goal.loop-at-preserved
loop-at-preserved c = (
  omega (arith, (end-bounds _ _ _ c.loop-at-test.true c.cell_end-stop.ensures).1),
  heading-turn _ _ _ _ c.loop-at.invariant.1 _ c.loop-at-test.true c.cell_end-stop.ensures _ _ _ c.put_content-end.ensures.0
      c.put_content-end.ensures.1 c.put_end.ensures
      (c.put_end.auto.out ∙ c.put_content-end.auto.out),
)

pub shape_of-out : goal.shape_of-out
shape_of-out c =
    c.loop-at.invariant.1.size

pub returns : goal.returns
returns c =
    heading-last _ _ _ _ c.loop-at.invariant.1 c.loop-at-test.false
