use native.Mathlib.Omega.{arith}
use Rattle.register.proofs.AnyCase.{was-false, none-sought}
use mathlib.Core.Bool.{not}
use mathlib.Core.Path.{ap}
use Rattle.register.proofs.folding.fold_functions.Goals as goal

pub any_function-requires-clause-names_in_bounds : goal.any_function-requires-clause-names_in_bounds
any_function-requires-clause-names_in_bounds c =
    omega (arith, c.requires.folding.room)

pub any_function-requires-clause-names_in_bounds_2 : goal.any_function-requires-clause-names_in_bounds_2
any_function-requires-clause-names_in_bounds_2 c =
    c.requires.sizes_in_bounds

pub returns-then-not-any_function : goal.returns-then-not-any_function
returns-then-not-any_function c =
    none-sought _ _ _ _ c.requires.folding c.args.marks.now c.requires.marked (c.any_function.ensures (was-false _ (ap not c.if-not-any_function.true)))
