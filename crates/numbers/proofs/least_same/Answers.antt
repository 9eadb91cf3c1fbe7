use borrow.Author.Rules.{rules}
use native.Mathlib.Omega.{arith}
use mathlib.Core.Path.{◌∙◌}
use Rattle.numbers.proofs.Texts.{in-texts}
use Rattle.numbers.proofs.Chains.{walk_start, walk-hit, link-hash, link-next, walk-less, walk-on, walk_end}
use Rattle.numbers.proofs.Alike.{passed_start, new-kept, passed_on, hash-marks-old, hash-marks-new}
use Rattle.numbers.proofs.least_same.Goals as goal

pub loop-at-init : goal.loop-at-init
loop-at-init c =
    let h = in-texts _ _ _ c.requires.sound c.requires.sound_2 _ c.requires.i_bound in
    (walk_start _ _ _ h _ _ c.requires.name_value c.requires.last_value, passed_start _ _ _ _ c.requires.name_value _ _ c.requires.last_value)

pub bounds-links-k : goal.bounds-links-k
bounds-links-k c =
    search (rules, c.requires.i_bound, c.requires.sizes_in_bounds, c.loop-at.invariant.0.low)

pub is_entry-requires-clause-sound : goal.is_entry-requires-clause-sound
is_entry-requires-clause-sound c =
    let h = in-texts _ _ _ c.requires.sound c.requires.sound_2 _ c.requires.i_bound in c.requires.sound

pub is_entry-requires-clause-sound_2 : goal.is_entry-requires-clause-sound_2
is_entry-requires-clause-sound_2 c =
    let h = in-texts _ _ _ c.requires.sound c.requires.sound_2 _ c.requires.i_bound in c.requires.sound_2

pub is_entry-requires-clause-i_bound : goal.is_entry-requires-clause-i_bound
is_entry-requires-clause-i_bound c =
    let h = in-texts _ _ _ c.requires.sound c.requires.sound_2 _ c.requires.i_bound in c.requires.i_bound

pub is_entry-requires-clause-r_bound : goal.is_entry-requires-clause-r_bound
is_entry-requires-clause-r_bound c =
    let h = in-texts _ _ _ c.requires.sound c.requires.sound_2 _ c.requires.i_bound in omega (arith, c.requires.i_bound, c.loop-at.invariant.0.low)

pub is_entry-requires-clause-hash_value : goal.is_entry-requires-clause-hash_value
is_entry-requires-clause-hash_value c =
    let h = in-texts _ _ _ c.requires.sound c.requires.sound_2 _ c.requires.i_bound in c.requires.hash_value

pub is_entry-requires-clause-link_value : goal.is_entry-requires-clause-link_value
is_entry-requires-clause-link_value c =
    let h = in-texts _ _ _ c.requires.sound c.requires.sound_2 _ c.requires.i_bound in link-hash _ _ _ h _ c.requires.name_value _ c.loop-at.invariant.0 c.loop-at-test.true (omega (arith, c.requires.i_bound, c.requires.sound.few_names, c.requires.sound_2.few_names)) _ c.requires.links _ c.place-k.ensures

pub is_entry-requires-clause-sizes_in_bounds : goal.is_entry-requires-clause-sizes_in_bounds
is_entry-requires-clause-sizes_in_bounds c =
    let h = in-texts _ _ _ c.requires.sound c.requires.sound_2 _ c.requires.i_bound in omega (arith, c.requires.sizes_in_bounds_2, c.loop-at.invariant.1.size)

pub shape_of-marks-then-is_entry : goal.shape_of-marks-then-is_entry
shape_of-marks-then-is_entry c =
    c.is_entry.auto.marks ∙ c.loop-at.invariant.1.size

pub returns-then-is_entry-clause-value : goal.returns-then-is_entry-clause-value
returns-then-is_entry-clause-value c =
    let h = in-texts _ _ _ c.requires.sound c.requires.sound_2 _ c.requires.i_bound in let e = walk-hit _ _ _ h _ c.requires.name_value _ c.loop-at.invariant.0 c.loop-at-test.true _ c.is_entry.ensures.value c.if-is_entry.true in e

pub returns-then-is_entry-clause-hash_marks_2 : goal.returns-then-is_entry-clause-hash_marks_2
returns-then-is_entry-clause-hash_marks_2 c =
    let h = in-texts _ _ _ c.requires.sound c.requires.sound_2 _ c.requires.i_bound in let e = walk-hit _ _ _ h _ c.requires.name_value _ c.loop-at.invariant.0 c.loop-at-test.true _ c.is_entry.ensures.value c.if-is_entry.true in hash-marks-old _ _ _ _ c.requires.hash_marks (new-kept _ _ _ _ _ _ _ c.loop-at.invariant.1 c.is_entry.ensures.marks_after) _ (omega (arith, c.loop-at.invariant.0.low, c.loop-at-test.true)) e

pub loop-at-smaller : goal.loop-at-smaller
loop-at-smaller c =
    let h = in-texts _ _ _ c.requires.sound c.requires.sound_2 _ c.requires.i_bound in
    walk-less _ _ _ h _ c.requires.name_value _ c.loop-at.invariant.0 c.loop-at-test.true (omega (arith, c.requires.i_bound, c.requires.sound.few_names, c.requires.sound_2.few_names)) _ c.requires.links _ c.place-k.ensures _ c.next-at.ensures

pub loop-at-preserved : goal.loop-at-preserved
loop-at-preserved c =
    let h = in-texts _ _ _ c.requires.sound c.requires.sound_2 _ c.requires.i_bound in
    (walk-on _ _ _ h _ c.requires.name_value _ c.loop-at.invariant.0 c.loop-at-test.true (omega (arith, c.requires.i_bound, c.requires.sound.few_names, c.requires.sound_2.few_names)) _ c.requires.links _ c.place-k.ensures _ c.next-at.ensures _ c.is_entry.ensures.value c.if-is_entry.false, passed_on _ _ _ _ _ _ _ c.loop-at.invariant.1 c.is_entry.ensures.marks_after c.requires.name_value c.loop-at.invariant.0.low (omega (arith, c.requires.i_bound, c.requires.sizes_in_bounds_2)) _ c.is_entry.ensures.value c.if-is_entry.false _ c.is_entry.auto.marks _ (c.next-at.ensures ∙ link-next _ _ _ h _ c.requires.name_value _ c.loop-at.invariant.0 c.loop-at-test.true (omega (arith, c.requires.i_bound, c.requires.sound.few_names, c.requires.sound_2.few_names)) _ c.requires.links _ c.place-k.ensures))

pub shape_of-marks : goal.shape_of-marks
shape_of-marks c =
    c.loop-at.invariant.1.size

pub returns-clause-value : goal.returns-clause-value
returns-clause-value c =
    let h = in-texts _ _ _ c.requires.sound c.requires.sound_2 _ c.requires.i_bound in walk_end _ _ _ h _ c.loop-at.invariant.0 c.loop-at-test.false

pub returns-clause-hash_marks_2 : goal.returns-clause-hash_marks_2
returns-clause-hash_marks_2 c =
    let h = in-texts _ _ _ c.requires.sound c.requires.sound_2 _ c.requires.i_bound in hash-marks-new _ _ _ _ c.requires.hash_marks c.loop-at.invariant.1.kept _ c.loop-at-test.false c.loop-at.invariant.1
