use native.Mathlib.Omega.{arith}
use mathlib.Core.Path.{refl}
use Rattle.in_order.proofs.Marks.{listing_start, listing-room, listing-turn, listing-end}
use Rattle.in_order.proofs.once.list_with.Goals as goal

pub loop-k-init : goal.loop-k-init
loop-k-init c =
    listing_start _ _ _ c.requires.marks_value

pub list_new-many-requires-clause-k_in_bounds : goal.list_new-many-requires-clause-k_in_bounds
list_new-many-requires-clause-k_in_bounds c =
    let h = c.requires.all_below _ c.loop-k-test.true in omega (arith, h, c.loop-k.invariant.marks_kept)

pub list_new-many-requires-clause-many_in_bounds : goal.list_new-many-requires-clause-many_in_bounds
list_new-many-requires-clause-many_in_bounds c =
    let h = c.requires.all_below _ c.loop-k-test.true in listing-room _ _ _ _ _ _ _ c.loop-k.invariant c.requires.marks_in_bounds _ (omega (arith, h, c.loop-k.invariant.marks_kept))

pub loop-k-preserved : goal.loop-k-preserved
loop-k-preserved c =
    listing-turn _ _ _ _ _ _ _ c.loop-k.invariant c.requires.marks_in_bounds _ c.loop-k-test.true (omega (arith, c.requires.all_below _ c.loop-k-test.true, c.loop-k.invariant.marks_kept)) refl c.list_new-many.ensures.marks_after c.list_new-many.ensures.value c.list_new-many.ensures.list_after

pub shape_of-marks : goal.shape_of-marks
shape_of-marks c =
    c.loop-k.invariant.marks_kept

pub shape_of-list : goal.shape_of-list
shape_of-list c =
    c.loop-k.invariant.list_kept

pub returns : goal.returns
returns c =
    listing-end _ _ _ _ _ _ _ c.loop-k.invariant c.requires.marks_in_bounds c.loop-k-test.false
