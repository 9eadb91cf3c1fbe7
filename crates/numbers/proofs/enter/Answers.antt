use borrow.Author.Rules.{rules}
use native.Mathlib.Omega.{arith}
use Rattle.numbers.proofs.Chains.{last_of, name-passed, name-entered}
use Rattle.numbers.proofs.enter.Goals as goal

pub least_same-least-requires-clause-sound : goal.least_same-least-requires-clause-sound
least_same-least-requires-clause-sound c =
    c.requires.sound

pub least_same-least-requires-clause-sound_2 : goal.least_same-least-requires-clause-sound_2
least_same-least-requires-clause-sound_2 c =
    c.requires.sound_2

pub least_same-least-requires-clause-i_bound : goal.least_same-least-requires-clause-i_bound
least_same-least-requires-clause-i_bound c =
    c.requires.i_bound

pub least_same-least-requires-clause-name_value : goal.least_same-least-requires-clause-name_value
least_same-least-requires-clause-name_value c =
    c.name_of-name.ensures

pub least_same-least-requires-clause-hash_value : goal.least_same-least-requires-clause-hash_value
least_same-least-requires-clause-hash_value c =
    c.hash_of-hash.ensures.0

pub least_same-least-requires-clause-last_value : goal.least_same-least-requires-clause-last_value
least_same-least-requires-clause-last_value c =
    last_of _ _ _ _ c.name_of-name.ensures _ _ c.requires.heads c.requires.links _ _ c.hash_of-hash.ensures.0 c.chain_of-b.ensures _ c.from_head-last.ensures.0

pub least_same-least-requires-clause-sizes_in_bounds : goal.least_same-least-requires-clause-sizes_in_bounds
least_same-least-requires-clause-sizes_in_bounds c =
    c.requires.sizes_in_bounds_2

pub least_same-least-requires-clause-links : goal.least_same-least-requires-clause-links
least_same-least-requires-clause-links c =
    c.requires.links

pub least_same-least-requires-clause-sizes_in_bounds_2 : goal.least_same-least-requires-clause-sizes_in_bounds_2
least_same-least-requires-clause-sizes_in_bounds_2 c =
    c.requires.sizes_in_bounds_3

pub least_same-least-requires-clause-hash_marks : goal.least_same-least-requires-clause-hash_marks
least_same-least-requires-clause-hash_marks c =
    c.requires.hash_marks

pub returns-then-least-i-clause-ids_after : goal.returns-then-least-i-clause-ids_after
returns-then-least-i-clause-ids_after c =
    let n = name-passed _ _ _ _ c.name_of-name.ensures _ _ c.requires.heads c.requires.links _ _ c.hash_of-hash.ensures.0 c.chain_of-b.ensures _ c.least_same-least.ensures.value _ c.place-at.ensures c.if-least-i.true c.args.ids.now in n.0

pub returns-then-least-i-clause-heads_2 : goal.returns-then-least-i-clause-heads_2
returns-then-least-i-clause-heads_2 c =
    let n = name-passed _ _ _ _ c.name_of-name.ensures _ _ c.requires.heads c.requires.links _ _ c.hash_of-hash.ensures.0 c.chain_of-b.ensures _ c.least_same-least.ensures.value _ c.place-at.ensures c.if-least-i.true c.args.ids.now in n.1.0

pub returns-then-least-i-clause-links_2 : goal.returns-then-least-i-clause-links_2
returns-then-least-i-clause-links_2 c =
    let n = name-passed _ _ _ _ c.name_of-name.ensures _ _ c.requires.heads c.requires.links _ _ c.hash_of-hash.ensures.0 c.chain_of-b.ensures _ c.least_same-least.ensures.value _ c.place-at.ensures c.if-least-i.true c.args.ids.now in n.1.1

pub returns-then-least-i-clause-hash_marks_2 : goal.returns-then-least-i-clause-hash_marks_2
returns-then-least-i-clause-hash_marks_2 c =
    let n = name-passed _ _ _ _ c.name_of-name.ensures _ _ c.requires.heads c.requires.links _ _ c.hash_of-hash.ensures.0 c.chain_of-b.ensures _ c.least_same-least.ensures.value _ c.place-at.ensures c.if-least-i.true c.args.ids.now in c.least_same-least.ensures.hash_marks_2

pub bounds-links-at : goal.bounds-links-at
bounds-links-at c =
    search (rules, c.requires.i_bound, c.requires.sizes_in_bounds_2)

pub to_head-requires : goal.to_head-requires
to_head-requires c =
    omega (arith, c.requires.i_bound, c.requires.sound.few_names, c.requires.sound_2.few_names)

pub offset_bounds-heads-b-2 : goal.offset_bounds-heads-b-2
offset_bounds-heads-b-2 c =
    record { fits = omega (arith, c.requires.heads.few, c.chain_of-b.ensures.1) }

pub bounds-heads-b-2 : goal.bounds-heads-b-2
bounds-heads-b-2 c =
    search (rules, c.requires.heads.all, c.chain_of-b.ensures.1)

pub returns-clause-ids_after : goal.returns-clause-ids_after
returns-clause-ids_after c =
    let n = name-entered _ _ _ _ c.name_of-name.ensures _ _ c.requires.heads c.requires.links _ _ c.hash_of-hash.ensures.0 c.chain_of-b.ensures _ c.least_same-least.ensures.value _ c.place-at.ensures c.if-least-i.false c.args.ids.now _ _ _ c.to_head.ensures c.from_head-last.ensures.0 c.wide.ensures.0 (omega (arith, c.requires.i_bound, c.requires.sizes_in_bounds_2)) in n.0

pub returns-clause-heads_2 : goal.returns-clause-heads_2
returns-clause-heads_2 c =
    let n = name-entered _ _ _ _ c.name_of-name.ensures _ _ c.requires.heads c.requires.links _ _ c.hash_of-hash.ensures.0 c.chain_of-b.ensures _ c.least_same-least.ensures.value _ c.place-at.ensures c.if-least-i.false c.args.ids.now _ _ _ c.to_head.ensures c.from_head-last.ensures.0 c.wide.ensures.0 (omega (arith, c.requires.i_bound, c.requires.sizes_in_bounds_2)) in n.1.0

pub returns-clause-links_2 : goal.returns-clause-links_2
returns-clause-links_2 c =
    let n = name-entered _ _ _ _ c.name_of-name.ensures _ _ c.requires.heads c.requires.links _ _ c.hash_of-hash.ensures.0 c.chain_of-b.ensures _ c.least_same-least.ensures.value _ c.place-at.ensures c.if-least-i.false c.args.ids.now _ _ _ c.to_head.ensures c.from_head-last.ensures.0 c.wide.ensures.0 (omega (arith, c.requires.i_bound, c.requires.sizes_in_bounds_2)) in n.1.1

pub returns-clause-hash_marks_2 : goal.returns-clause-hash_marks_2
returns-clause-hash_marks_2 c =
    let n = name-entered _ _ _ _ c.name_of-name.ensures _ _ c.requires.heads c.requires.links _ _ c.hash_of-hash.ensures.0 c.chain_of-b.ensures _ c.least_same-least.ensures.value _ c.place-at.ensures c.if-least-i.false c.args.ids.now _ _ _ c.to_head.ensures c.from_head-last.ensures.0 c.wide.ensures.0 (omega (arith, c.requires.i_bound, c.requires.sizes_in_bounds_2)) in c.least_same-least.ensures.hash_marks_2
