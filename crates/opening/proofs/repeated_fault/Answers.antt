use native.Mathlib.Omega.{arith}
use Rattle.opening.proofs.Singles.{in-single, not-any-again, one-by-one}
use Rattle.std.proofs.iter.Serving.{serving}
use borrow.Author.Rules.{rules}
use mathlib.Core.Bool.{not}
use mathlib.Core.Path.{ap}
use Rattle.opening.proofs.repeated_fault.Goals as goal

pub any_again-requires : goal.any_again-requires
any_again-requires c =
    c.requires

pub returns-then-not-any_again : goal.returns-then-not-any_again
returns-then-not-any_again c =
    not-any-again _ _ c.any_again.ensures (ap not c.if-not-any_again.true)

pub again_fault-requires-clause-registered : goal.again_fault-requires-clause-registered
again_fault-requires-clause-registered c =
    c.requires

pub again_fault-requires-clause-exact : goal.again_fault-requires-clause-exact
again_fault-requires-clause-exact c =
    in-single _ (omega arith) (omega arith)

pub or_else-requires : goal.or_else-requires
or_else-requires c =
    let e = in-single 102 (omega arith) (omega arith) in grind (serving, e)

pub or_else-requires-2 : goal.or_else-requires-2
or_else-requires-2 c =
    let e = in-single 103 (omega arith) (omega arith) in grind (serving, e)

pub returns : goal.returns
returns c =
    one-by-one _ _ _ _ c.again_fault.ensures (λ p. search rules) c.or_else.ensures (λ p. search rules) c.or_else-2.ensures
