use mathlib.Core.Path.{sym}
use native.Mathlib.Omega.{arith}
use lib.Seq.{length-take-le}
use Rattle.cells.proofs.Points.{before-within, number-none, number-whole, number-float, number-string}
use mathlib.Core.Bool.{not}
use mathlib.Core.Path.{ap}
use Rattle.cells.proofs.number_kind.Goals as goal

pub slice_bounds-is_digits-end : goal.slice_bounds-is_digits-end
slice_bounds-is_digits-end c =
    sym (length-take-le _ _ (omega (arith, before-within c.args.s.now)))

pub returns-then-not-is_digits : goal.returns-then-not-is_digits
returns-then-not-is_digits c =
    number-none _ _ _ c.point_place-place.ensures c.is_digits.ensures (ap not c.if-not-is_digits.true)

pub returns-then-s-place : goal.returns-then-s-place
returns-then-s-place c =
    number-whole _ _ _ c.point_place-place.ensures c.is_digits.ensures _
    (ap not c.if-not-is_digits.false) c.if-s-place.true c.whole_kind.ensures

pub returns-then-is_digits : goal.returns-then-is_digits
returns-then-is_digits c =
    number-float _ _ _ c.point_place-place.ensures c.is_digits.ensures _
    (ap not c.if-not-is_digits.false) c.if-s-place.false c.is_digits-2.ensures c.if-is_digits.true

pub returns : goal.returns
returns c =
    number-string _ _ _ c.point_place-place.ensures c.is_digits.ensures _
    (ap not c.if-not-is_digits.false) c.if-s-place.false c.is_digits-2.ensures c.if-is_digits.false
