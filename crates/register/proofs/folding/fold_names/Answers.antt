use mathlib.Core.Path.{refl, ◌∙◌}
use native.Mathlib.Omega.{arith}
use Rattle.register.proofs.AnyCase.{all-folded}
use Rattle.register.proofs.folding.fold_names.Goals as goal

pub loop-x-init : goal.loop-x-init
loop-x-init c =
    (c.requires.folding, omega arith, refl)

pub fold_name-requires-clause-folding : goal.fold_name-requires-clause-folding
fold_name-requires-clause-folding c =
    c.loop-x.invariant.0

pub fold_name-requires-clause-functions_value : goal.fold_name-requires-clause-functions_value
fold_name-requires-clause-functions_value c =
    c.requires.functions_value

pub fold_name-requires-clause-marked : goal.fold_name-requires-clause-marked
fold_name-requires-clause-marked c =
    c.requires.marked

pub fold_name-requires-clause-sizes_in_bounds : goal.fold_name-requires-clause-sizes_in_bounds
fold_name-requires-clause-sizes_in_bounds c =
    c.requires.sizes_in_bounds

pub fold_name-requires-clause-x_bound : goal.fold_name-requires-clause-x_bound
fold_name-requires-clause-x_bound c =
    c.loop-x-test.true

pub loop-x-preserved : goal.loop-x-preserved
loop-x-preserved c =
    (c.fold_name.ensures, omega (arith, c.loop-x-test.true), c.fold_name.auto.register ∙ c.loop-x.invariant.2)

pub shape_of-register : goal.shape_of-register
shape_of-register c =
    c.loop-x.invariant.2

pub returns : goal.returns
returns c =
    all-folded _ _ _ _ _ c.loop-x-test.false c.loop-x.invariant.0
