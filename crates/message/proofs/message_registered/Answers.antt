use Rattle.opening.proofs.Both.{both-turned-down, both-opened}
use Rattle.walk.proofs.Lending.{lent}
use Rattle.message.specs.Said.{message_effect}
use Rattle.message.proofs.message_registered.Goals as goal

pub declared_fault-requires : goal.declared_fault-requires
declared_fault-requires c =
    c.requires.registered

pub returns-in-Some : goal.returns-in-Some
unfolding message_effect
returns-in-Some c =
    both-turned-down _ _ _ c.requires.both_read _ c.declared_fault.ensures _ _ c.in-Some.fault.number c.in-Some.fault.place c.in-Some.is c.refused.ensures

pub message_lent-requires : goal.message_lent-requires
message_lent-requires c =
    lent _ _ _ _ c.requires.both_read c.requires.registered

pub returns : goal.returns
unfolding message_effect
returns c =
    both-opened _ _ _ c.requires.both_read _ c.declared_fault.ensures _ _ c.in_default.is c.message_lent.ensures
