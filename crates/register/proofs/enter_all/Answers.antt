use native.Mathlib.Omega.{arith}
use mathlib.Core.Path.{refl, ◌∙◌}
use Rattle.register.proofs.Filled.{filled}
use Rattle.register.proofs.enter_all.Goals as goal

pub loop-j-init : goal.loop-j-init
loop-j-init c =
    (c.requires, omega arith, refl)

pub enter-requires-clause-registering : goal.enter-requires-clause-registering
enter-requires-clause-registering c =
    c.loop-j.invariant.0

pub enter-requires-clause-j_lt_tokens : goal.enter-requires-clause-j_lt_tokens
enter-requires-clause-j_lt_tokens c =
    c.loop-j-test.true

pub list_apart-many-requires-clause-registering : goal.list_apart-many-requires-clause-registering
list_apart-many-requires-clause-registering c =
    c.enter.ensures

pub list_apart-many-requires-clause-j_lt_tokens : goal.list_apart-many-requires-clause-j_lt_tokens
list_apart-many-requires-clause-j_lt_tokens c =
    c.loop-j-test.true

pub loop-j-preserved : goal.loop-j-preserved
loop-j-preserved c =
    (c.list_apart-many.ensures, omega (arith, c.loop-j-test.true), c.list_apart-many.auto.register ∙ c.enter.auto.register ∙ c.loop-j.invariant.2)

pub shape_of-register : goal.shape_of-register
shape_of-register c =
    c.loop-j.invariant.2

pub returns : goal.returns
returns c =
    filled _ _ _ _ _ _ c.loop-j.invariant.1 c.loop-j-test.false c.loop-j.invariant.0
