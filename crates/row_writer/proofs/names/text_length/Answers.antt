use Rattle.row_writer.proofs.Headers.{end-bounds, content-bound, text-start, text-turn, text-last}
use native.Mathlib.Omega.{arith}
use Rattle.row_writer.proofs.names.text_length.Goals as goal

pub loop-at-init : goal.loop-at-init
loop-at-init c =
    (omega arith, omega arith, text-start c.args.header.now)

pub slice_bounds-content_length-count : goal.slice_bounds-content_length-count
slice_bounds-content_length-count c =
    let e = end-bounds _ _ _ c.loop-at-test.true c.cell_end-end.ensures in
    omega (arith, e.0, e.1)

pub slice_bounds-content_length-start : goal.slice_bounds-content_length-start
slice_bounds-content_length-start c =
    let e = end-bounds _ _ _ c.loop-at-test.true c.cell_end-end.ensures in
    omega (arith, e.0, e.1)

pub slice_bounds-content_length-end : goal.slice_bounds-content_length-end
slice_bounds-content_length-end c =
    let e = end-bounds _ _ _ c.loop-at-test.true c.cell_end-end.ensures in
    omega (arith, e.0, e.1)

pub overflow_add-sum : goal.overflow_add-sum
overflow_add-sum c =
    omega (arith, content-bound _ _ _ c.loop-at-test.true c.cell_end-end.ensures, (end-bounds _ _ _ c.loop-at-test.true c.cell_end-end.ensures).1, c.content_length-sum.ensures)

pub overflow_add-at : goal.overflow_add-at
overflow_add-at c =
    let e = end-bounds _ _ _ c.loop-at-test.true c.cell_end-end.ensures in
    omega (arith, e.0, e.1)

pub loop-at-smaller : goal.loop-at-smaller
loop-at-smaller c =
    let e = end-bounds _ _ _ c.loop-at-test.true c.cell_end-end.ensures in
    omega (arith, e.0, e.1)

pub loop-at-preserved : goal.loop-at-preserved
loop-at-preserved c = (
  omega (arith, (end-bounds _ _ _ c.loop-at-test.true c.cell_end-end.ensures).1),
  omega (arith, content-bound _ _ _ c.loop-at-test.true c.cell_end-end.ensures, (end-bounds _ _ _ c.loop-at-test.true c.cell_end-end.ensures).0, c.content_length-sum.ensures),
  text-turn _ _ _ _ c.loop-at.invariant.2 _ _ c.loop-at-test.true c.cell_end-end.ensures c.content_length-sum.ensures,
)

pub returns : goal.returns
returns c =
    text-last c.args.header.now _ _ _ c.loop-at.invariant.2 c.loop-at-test.false
