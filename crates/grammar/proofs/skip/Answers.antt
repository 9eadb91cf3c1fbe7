use native.Mathlib.Omega.{arith}
use mathlib.Core.Path.{refl}
use Rattle.grammar.proofs.Skipping.{skip-on, skip-out, skip-done, size_is}
use Rattle.grammar.proofs.skip.Goals as goal

pub loop-need-init : goal.loop-need-init
loop-need-init c =
    (omega arith, (omega (arith, c.requires.i_lt_tokens), (refl, omega arith)))

pub returns-then-at-f : goal.returns-then-at-f
returns-then-at-f c =
    skip-out _ _ _ _ c.loop-need.invariant.1.1.0
    (omega (arith, size_is _ _ c.requires.sound, c.if-at-f.true))

pub overflow_sub-need : goal.overflow_sub-need
overflow_sub-need c =
    omega arith

pub overflow_add-need : goal.overflow_add-need
overflow_add-need c =
    omega (
      arith,
      c.arity_of.ensures.1,
      c.loop-need.invariant.0,
      c.loop-need.invariant.1.0,
      c.loop-need.invariant.1.1.1,
      c.requires.sound.few_tokens,
    )

pub loop-need-preserved : goal.loop-need-preserved
loop-need-preserved c = (
  omega (arith, c.loop-need.invariant.0),
  (
    omega (arith, c.loop-need.invariant.1.0),
    (
      skip-on _ _ _ _ c.loop-need.invariant.1.1.0 _ (omega arith)
          (omega (arith, c.loop-need.invariant.1.0, size_is _ _ c.requires.sound))
          c.arity_of.ensures.0,
      omega (arith, c.arity_of.ensures.1, c.loop-need.invariant.0, c.loop-need.invariant.1.1.1),
    ),
  ),
)

pub returns : goal.returns
returns c =
    skip-done _ _ _ _ c.loop-need.invariant.1.1.0 (omega arith)
