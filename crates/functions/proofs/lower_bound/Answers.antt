use native.Mathlib.Omega.{arith}
use mathlib.Core.Path.{sym, ◌∙◌}
use Rattle.functions.proofs.Halving.{parted-start, parted-up, parted-down, parted-end}
use Rattle.functions.proofs.lower_bound.Goals as goal

pub loop-low-init : goal.loop-low-init
loop-low-init c =
    parted-start _ _ _

pub is_less-requires-clause-sound : goal.is_less-requires-clause-sound
is_less-requires-clause-sound c =
    c.requires.sound

pub is_less-requires-clause-name_at : goal.is_less-requires-clause-name_at
is_less-requires-clause-name_at c =
    c.requires.all_named _ (omega (arith, c.loop-low.invariant.inside, c.loop-low-test.true))

pub loop-low-preserved-then-is_less : goal.loop-low-preserved-then-is_less
loop-low-preserved-then-is_less c =
    parted-up _ _ _ c.requires.rises _ c.loop-low.invariant (omega (arith, c.loop-low-test.true))
    (sym c.is_less.ensures ∙ c.if-is_less.true)

pub loop-low-preserved : goal.loop-low-preserved
loop-low-preserved c =
    parted-down _ _ _ c.requires.rises _ c.loop-low.invariant (omega (arith, c.loop-low-test.true)) (omega arith)
    (sym c.is_less.ensures ∙ c.if-is_less.false)

pub returns : goal.returns
returns c =
    parted-end _ _ _ c.loop-low.invariant c.loop-low-test.false
