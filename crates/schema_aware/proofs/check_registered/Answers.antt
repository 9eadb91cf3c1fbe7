use Rattle.opening.proofs.Both.{both-turned-down, both-opened}
use Rattle.walk.proofs.Lending.{lent}
use Rattle.schema_aware.specs.Check.{check_effect}
use Rattle.schema_aware.proofs.check_registered.Goals as goal

pub returns-in-Some : goal.returns-in-Some
unfolding check_effect
returns-in-Some c =
    both-turned-down _ _ _ c.requires.both_read _ c.declared_fault.ensures _ _ c.in-Some.fault.number c.in-Some.fault.place c.in-Some.is c.refused.ensures

pub check_lent-requires : goal.check_lent-requires
check_lent-requires c =
    lent _ _ _ _ c.requires.both_read c.requires.registered

pub returns : goal.returns
unfolding check_effect
returns c =
    both-opened _ _ _ c.requires.both_read _ c.declared_fault.ensures _ _ c.in_default.is c.check_lent.ensures
