use mathlib.Core.Path.{refl}
use Rattle.numbers.proofs.Hashes.{hash-few, hash-short, hash-long, mix-as}
use Rattle.numbers.proofs.hash_of.Goals as goal

pub returns-then-n-lt-HALF : goal.returns-then-n-lt-HALF
returns-then-n-lt-HALF c =
    (hash-few _ _ c.if-n-lt-HALF.true (mix-as c.mixed.ensures.0 c.size.ensures.0 c.few.ensures refl), c.mixed.ensures.1)

pub returns-then-n-lt-STEP : goal.returns-then-n-lt-STEP
returns-then-n-lt-STEP c =
    (hash-short _ _ c.if-n-lt-HALF.false c.if-n-lt-STEP.true (mix-as c.mixed-then-n-lt-STEP.ensures.0 c.size-then-n-lt-STEP.ensures.0 c.word.ensures c.word-then-n-lt-STEP.ensures), c.mixed-then-n-lt-STEP.ensures.1)

pub returns : goal.returns
returns c =
    (hash-long _ _ c.if-n-lt-STEP.false (mix-as c.mixed-2.ensures.0 c.steps.ensures.0 c.word-2.ensures c.word-3.ensures), c.mixed-2.ensures.1)
