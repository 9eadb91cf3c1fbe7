use Rattle.row_writer.proofs.Headers.{end-bounds, label-fault, label-passed, fault-turn, fault-stop, fault-last, next-saturates}
use Rattle.row_writer.proofs.Left.{left-all}
use native.Mathlib.Omega.{arith}
use Rattle.row_writer.proofs.names.name_fault.Goals as goal

pub returns-then-not-is_utf8 : goal.returns-then-not-is_utf8
returns-then-not-is_utf8 c =
    label-fault _ _ _ c.is_utf8.ensures c.if-not-is_utf8.true

pub loop-at-init : goal.loop-at-init
loop-at-init c = (
  omega arith,
  rw (left-all c.args.header.now)
      (label-passed _ _ _ c.is_utf8.ensures c.if-not-is_utf8.false),
  omega arith,
)

pub slice_bounds-is_utf8-count : goal.slice_bounds-is_utf8-count
slice_bounds-is_utf8-count c =
    let e = end-bounds _ _ _ c.loop-at-test.true c.cell_end-end.ensures in
    omega (arith, e.0, e.1)

pub slice_bounds-is_utf8-start : goal.slice_bounds-is_utf8-start
slice_bounds-is_utf8-start c =
    let e = end-bounds _ _ _ c.loop-at-test.true c.cell_end-end.ensures in
    omega (arith, e.0, e.1)

pub slice_bounds-is_utf8-end : goal.slice_bounds-is_utf8-end
slice_bounds-is_utf8-end c =
    let e = end-bounds _ _ _ c.loop-at-test.true c.cell_end-end.ensures in
    omega (arith, e.0, e.1)

pub returns-then-not-is_utf8-2 : goal.returns-then-not-is_utf8-2
returns-then-not-is_utf8-2 c =
    fault-stop _ _ _ _ c.loop-at.invariant.1 _ _ c.loop-at-test.true c.cell_end-end.ensures
    c.is_utf8-in-loop-at.ensures c.if-not-is_utf8-2.true

pub overflow_add-at : goal.overflow_add-at
overflow_add-at c =
    let e = end-bounds _ _ _ c.loop-at-test.true c.cell_end-end.ensures in
    omega (arith, e.0, e.1)

pub loop-at-smaller : goal.loop-at-smaller
loop-at-smaller c =
    let e = end-bounds _ _ _ c.loop-at-test.true c.cell_end-end.ensures in
    omega (arith, e.0, e.1)

pub loop-at-preserved : goal.loop-at-preserved
loop-at-preserved c = (
  omega (arith, (end-bounds _ _ _ c.loop-at-test.true c.cell_end-end.ensures).1),
  fault-turn _ _ _ _ c.loop-at.invariant.1 _ _ _ c.loop-at-test.true c.cell_end-end.ensures c.is_utf8-in-loop-at.ensures
      c.if-not-is_utf8-2.false (next-saturates _ _ c.loop-at.invariant.2 c.saturating_add-k.ensures),
  omega (arith, c.saturating_add-k.ensures),
)

pub returns : goal.returns
returns c =
    fault-last c.args.header.now _ _ _ c.loop-at.invariant.1 c.loop-at-test.false
