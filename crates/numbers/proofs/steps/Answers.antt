use mathlib.Core.Path.{refl}
use native.Mathlib.Omega.{arith}
use Rattle.numbers.proofs.Hashes.{steps-none, steps-turn, steps-end}
use Rattle.numbers.proofs.steps.Goals as goal

pub loop-k-init : goal.loop-k-init
loop-k-init c =
    (steps-none _ _ c.size-hash.ensures.0, c.size-hash.ensures.1, omega arith)

pub word-requires : goal.word-requires
word-requires c =
    omega (arith, c.requires)

pub word-requires-in-loop-k : goal.word-requires-in-loop-k
word-requires-in-loop-k c =
    omega (arith, c.requires)

pub loop-k-preserved : goal.loop-k-preserved
loop-k-preserved c =
    (steps-turn _ _ _ c.loop-k.invariant.0 _ _ _ _ refl c.word.ensures c.word-in-loop-k.ensures c.mixed-hash.ensures.0, c.mixed-hash.ensures.1, omega arith)

pub returns : goal.returns
returns c =
    (steps-end _ _ _ _ c.loop-k.invariant.0 c.loop-k.invariant.2 c.loop-k-test.false, c.loop-k.invariant.1)
