use native.Mathlib.Omega.{arith}
use Rattle.numbers.proofs.Texts.{texts-length}
use Rattle.numbers.proofs.Filling.{going_start, going_on, going_end, going-marks}
use Rattle.numbers.proofs.fill.Goals as goal

pub loop-i-init : goal.loop-i-init
loop-i-init c =
    going_start _ _ _ _ _ _ _ c.requires.heads

pub enter-requires-clause-sound : goal.enter-requires-clause-sound
enter-requires-clause-sound c =
    c.requires.sound

pub enter-requires-clause-sound_2 : goal.enter-requires-clause-sound_2
enter-requires-clause-sound_2 c =
    c.requires.sound_2

pub enter-requires-clause-i_bound : goal.enter-requires-clause-i_bound
enter-requires-clause-i_bound c =
    c.loop-i-test.true

pub enter-requires-clause-sizes_in_bounds : goal.enter-requires-clause-sizes_in_bounds
enter-requires-clause-sizes_in_bounds c =
    omega (arith, c.requires.sizes_in_bounds, c.loop-i.invariant.size₁)

pub enter-requires-clause-sizes_in_bounds_2 : goal.enter-requires-clause-sizes_in_bounds_2
enter-requires-clause-sizes_in_bounds_2 c =
    omega (arith, c.requires.sizes_in_bounds_2, c.loop-i.invariant.size₃)

pub enter-requires-clause-sizes_in_bounds_3 : goal.enter-requires-clause-sizes_in_bounds_3
enter-requires-clause-sizes_in_bounds_3 c =
    omega (arith, c.requires.sizes_in_bounds_3, c.loop-i.invariant.size₄)

pub enter-requires-clause-heads : goal.enter-requires-clause-heads
enter-requires-clause-heads c =
    c.loop-i.invariant.chains

pub enter-requires-clause-links : goal.enter-requires-clause-links
enter-requires-clause-links c =
    c.loop-i.invariant.linked

pub enter-requires-clause-hash_marks : goal.enter-requires-clause-hash_marks
enter-requires-clause-hash_marks c =
    c.loop-i.invariant.marked

pub loop-i-preserved : goal.loop-i-preserved
loop-i-preserved c =
    going_on _ _ _ _ _ _ _ _ _ _ _ _ c.loop-i.invariant _ _ _ _ c.loop-i-test.true c.requires.sizes_in_bounds c.enter.auto.ids c.enter.auto.heads c.enter.auto.links c.enter.auto.marks c.enter.ensures.ids_after c.enter.ensures.heads_2 c.enter.ensures.links_2 c.enter.ensures.hash_marks_2

pub shape_of-ids : goal.shape_of-ids
shape_of-ids c =
    c.loop-i.invariant.size₁

pub shape_of-heads : goal.shape_of-heads
shape_of-heads c =
    c.loop-i.invariant.size₂

pub shape_of-links : goal.shape_of-links
shape_of-links c =
    c.loop-i.invariant.size₃

pub shape_of-marks : goal.shape_of-marks
shape_of-marks c =
    c.loop-i.invariant.size₄

pub returns-clause-numbered : goal.returns-clause-numbered
returns-clause-numbered c =
    let l = texts-length _ _ _ c.requires.sound c.requires.sound_2 in going_end _ _ _ _ _ _ _ _ _ _ _ _ c.loop-i.invariant c.loop-i-test.false

pub returns-clause-ids_unchanged : goal.returns-clause-ids_unchanged
returns-clause-ids_unchanged c =
    let l = texts-length _ _ _ c.requires.sound c.requires.sound_2 in c.loop-i.invariant.behind

pub returns-clause-marked : goal.returns-clause-marked
returns-clause-marked c =
    let l = texts-length _ _ _ c.requires.sound c.requires.sound_2 in going-marks _ _ _ _ _ _ _ _ _ _ _ _ c.loop-i.invariant c.loop-i-test.false (omega (arith, l))
