use mathlib.Core.Path.{◌∙◌, sym}
use native.Mathlib.Omega.{arith}
use Rattle.lists.proofs.Tests.{never}
use Rattle.register.proofs.AnyCase.{none_more}
use Rattle.register.proofs.folding.any_function.Goals as goal

pub loop-x-init : goal.loop-x-init
loop-x-init c =
    λ x h. absurd (omega (arith, h))

pub returns-then-is_function : goal.returns-then-is_function
returns-then-is_function c =
    λ e. never (sym e)

pub loop-x-preserved : goal.loop-x-preserved
loop-x-preserved c =
    none_more _ c.args.marks.now c.args.register.now _ c.loop-x.invariant (sym c.is_function.ensures ∙ c.if-is_function.false)

pub returns : goal.returns
returns c =
    λ e x h. c.loop-x.invariant x (omega (arith, h, c.loop-x-test.false))
