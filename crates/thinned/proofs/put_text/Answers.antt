use mathlib.Core.Path.{refl, ap}
use native.Mathlib.Omega.{arith}
use Rattle.frame.specs.declared.Sheet.{Sheet}
use Rattle.thinned.proofs.Putting.{texts-start, texts-turn, texts-last, text-few}
use Rattle.thinned.proofs.put_text.Goals as goal

pub overflow_mul-at : goal.overflow_mul-at
overflow_mul-at c =
    omega (arith, c.requires.sound.few_names)

pub loop-k-init : goal.loop-k-init
loop-k-init c =
    texts-start _ _ _ _

pub name-name-requires-clause-sound : goal.name-name-requires-clause-sound
name-name-requires-clause-sound c =
    c.requires.sound

pub name-name-requires-clause-k_lt_names : goal.name-name-requires-clause-k_lt_names
name-name-requires-clause-k_lt_names c =
    c.loop-k-test.true

pub put_text-requires-clause-f_in_bounds : goal.put_text-requires-clause-f_in_bounds
put_text-requires-clause-f_in_bounds c =
    omega (arith, c.requires.h_in_bounds, c.loop-k.invariant.pieces.size)

pub put_text-requires-clause-piece_bound : goal.put_text-requires-clause-piece_bound
put_text-requires-clause-piece_bound c =
    let r = text-few _ _ c.requires.sound c.loop-k.invariant c.loop-k-test.true _ c.name-name.ensures in
    omega (arith, r.0, ap (λ (g : Sheet). g.text) c.requires.h_value)

pub overflow_cast-at : goal.overflow_cast-at
overflow_cast-at c =
    let r = text-few _ _ c.requires.sound c.loop-k.invariant c.loop-k-test.true _ c.name-name.ensures in
    omega (arith, r.1)

pub overflow_add-at : goal.overflow_add-at
overflow_add-at c =
    let r = text-few _ _ c.requires.sound c.loop-k.invariant c.loop-k-test.true _ c.name-name.ensures in
    omega (arith, r.1)

pub loop-k-preserved : goal.loop-k-preserved
loop-k-preserved c =
    texts-turn _ _ _ _ c.loop-k.invariant (omega (arith, c.loop-k-test.true, c.requires.sound.names)) _ _ _
    c.name-name.ensures refl c.put_text.ensures c.put_text.auto.out

pub shape_of-out : goal.shape_of-out
shape_of-out c =
    c.loop-k.invariant.pieces.size

pub returns : goal.returns
returns c =
    texts-last _ _ _ _ c.loop-k.invariant (omega (arith, c.loop-k-test.false, c.requires.sound.names))
