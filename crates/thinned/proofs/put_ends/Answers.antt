use mathlib.Core.Path.{refl, ap}
use native.Mathlib.Omega.{arith}
use Rattle.frame.specs.declared.Sheet.{Sheet}
use Rattle.thinned.proofs.Putting.{ends-start, ends-turn, ends_last, end-few}
use Rattle.thinned.proofs.put_ends.Goals as goal

pub loop-k-init : goal.loop-k-init
loop-k-init c =
    ends-start _ _ _

pub name-name-requires-clause-sound : goal.name-name-requires-clause-sound
name-name-requires-clause-sound c =
    c.requires.sound

pub name-name-requires-clause-k_lt_names : goal.name-name-requires-clause-k_lt_names
name-name-requires-clause-k_lt_names c =
    c.loop-k-test.true

pub overflow_cast-end : goal.overflow_cast-end
overflow_cast-end c =
    omega (arith, end-few _ _ c.requires.sound c.loop-k.invariant c.loop-k-test.true _ c.name-name.ensures)

pub overflow_add-end : goal.overflow_add-end
overflow_add-end c =
    omega (arith, end-few _ _ c.requires.sound c.loop-k.invariant c.loop-k-test.true _ c.name-name.ensures)

pub put_end-requires-clause-h_in_bounds : goal.put_end-requires-clause-h_in_bounds
put_end-requires-clause-h_in_bounds c =
    omega (arith, c.requires.h_in_bounds, c.loop-k.invariant.pieces.size)

pub put_end-requires-clause-k_lt_max_names : goal.put_end-requires-clause-k_lt_max_names
put_end-requires-clause-k_lt_max_names c =
    omega (arith, c.loop-k-test.true, c.requires.sound.few_names)

pub put_end-requires-clause-k_bound : goal.put_end-requires-clause-k_bound
put_end-requires-clause-k_bound c =
    omega (arith, c.loop-k-test.true, ap (λ (g : Sheet). g.text) c.requires.h_value)

pub loop-k-preserved : goal.loop-k-preserved
loop-k-preserved c =
    ends-turn _ _ _ c.loop-k.invariant (omega (arith, c.loop-k-test.true, c.requires.sound.names)) _ _ _
    c.name-name.ensures refl c.put_end.ensures c.put_end.auto.out

pub shape_of-out : goal.shape_of-out
shape_of-out c =
    c.loop-k.invariant.pieces.size

pub returns : goal.returns
returns c =
    ends_last _ _ _ c.loop-k.invariant (omega (arith, c.loop-k-test.false, c.requires.sound.names))
