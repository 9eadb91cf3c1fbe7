use mathlib.Core.Path.{refl, ◌∙◌}
use Rattle.join.proofs.Putting.{names-start, names-room, names-turn, names-last}
use native.Mathlib.Omega.{arith}
use Rattle.join.proofs.put_names.Goals as goal

pub loop-k-init : goal.loop-k-init
loop-k-init c =
    names-start _ _ _ _ _

pub name-name-requires-clause-sound : goal.name-name-requires-clause-sound
name-name-requires-clause-sound c =
    c.requires.stated.sheet

pub name-name-requires-clause-k_lt_names : goal.name-name-requires-clause-k_lt_names
name-name-requires-clause-k_lt_names c =
    c.loop-k-test.true

pub put_text-requires-clause-f_in_bounds : goal.put_text-requires-clause-f_in_bounds
put_text-requires-clause-f_in_bounds c =
    let r = names-room _ _ _ _ _ c.loop-k.invariant (omega (arith, c.loop-k-test.true, c.requires.stated.sheet.names)) _ c.name-name.ensures in omega (arith, c.requires.h_in_bounds, c.loop-k.invariant.1.size)

pub put_text-requires-clause-piece_bound : goal.put_text-requires-clause-piece_bound
put_text-requires-clause-piece_bound c =
    let r = names-room _ _ _ _ _ c.loop-k.invariant (omega (arith, c.loop-k-test.true, c.requires.stated.sheet.names)) _ c.name-name.ensures in omega (arith, r, c.requires.stated.text, c.requires.follows.text)

pub overflow_cast-end : goal.overflow_cast-end
overflow_cast-end c =
    let r = names-room _ _ _ _ _ c.loop-k.invariant (omega (arith, c.loop-k-test.true, c.requires.stated.sheet.names)) _ c.name-name.ensures in
    omega (arith, r, c.requires.stated.text, c.requires.follows.text, c.requires.few.text)

pub overflow_add-end : goal.overflow_add-end
overflow_add-end c =
    let r = names-room _ _ _ _ _ c.loop-k.invariant (omega (arith, c.loop-k-test.true, c.requires.stated.sheet.names)) _ c.name-name.ensures in
    omega (arith, r, c.requires.stated.text, c.requires.follows.text, c.requires.few.text)

pub overflow_add-before : goal.overflow_add-before
overflow_add-before c =
    omega (arith, c.loop-k-test.true, c.requires.follows.names, c.requires.few.names)

pub put_end-requires-clause-f_in_bounds : goal.put_end-requires-clause-f_in_bounds
put_end-requires-clause-f_in_bounds c =
    omega (arith, c.requires.h_in_bounds, c.loop-k.invariant.1.size, c.put_text.auto.out)

pub put_end-requires-clause-k_lt_names : goal.put_end-requires-clause-k_lt_names
put_end-requires-clause-k_lt_names c =
    omega (arith, c.loop-k-test.true, c.requires.follows.names)

pub loop-k-preserved : goal.loop-k-preserved
loop-k-preserved c =
    names-turn _ _ _ _ _ c.loop-k.invariant (omega (arith, c.loop-k-test.true, c.requires.stated.sheet.names)) _ _ _ _
    c.name-name.ensures refl c.put_text.ensures c.put_end.ensures
    (c.put_end.auto.out ∙ c.put_text.auto.out)

pub shape_of-out : goal.shape_of-out
shape_of-out c =
    c.loop-k.invariant.1.size

pub returns : goal.returns
returns c =
    names-last _ _ _ _ _ c.loop-k.invariant (omega (arith, c.loop-k-test.false, c.requires.stated.sheet.names))
