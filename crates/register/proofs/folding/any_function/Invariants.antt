use Rattle.numbers.specs.Least.{all_names}
use Rattle.register.specs.Inner.{NoneMarked}
use Rattle.register.proofs.folding.any_function.Given as goal

abbrev pub invariant-loop-x : goal.invariant-loop-x
invariant-loop-x l = NoneMarked (all_names l.sizes) l.marks l.register l.x
