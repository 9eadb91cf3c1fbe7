use mathlib.Core.Path.{refl}
use native.Mathlib.Omega.{arith}
use Rattle.lists.proofs.Copying.{copy-turn, copy-end}
use Rattle.lists.proofs.copy.Goals as goal

pub loop-i-init : goal.loop-i-init
loop-i-init g c = refl

pub loop-i-preserved : goal.loop-i-preserved
loop-i-preserved g c =
    copy-turn c.args.from.now c.loop-i.to c.loop-i.i c.loop-i.invariant c.index-from-i.is
    (omega (arith, c.loop-i.auto.to, c.loop-i-test.true)) (omega (arith, c.requires, c.loop-i-test.true))

pub returns : goal.returns
returns g c =
    copy-end c.args.from.now c.loop-i.to c.loop-i.i c.loop-i.invariant
    (omega (arith, c.loop-i.auto.to, c.loop-i-test.false)) (omega (arith, c.requires, c.loop-i-test.false))
