use native.Mathlib.Omega.{arith}
use Rattle.register.proofs.Filled.{entry-inside, entry-of}
use Rattle.register.proofs.Names.{statement-text, statement-inside}
use Rattle.register.proofs.Entries.{entered-in}
use Rattle.register.proofs.entered.Goals as goal

pub number_of-number-requires-clause-registered : goal.number_of-number-requires-clause-registered
number_of-number-requires-clause-registered c =
    c.requires.registered

pub number_of-number-requires-clause-name_at : goal.number_of-number-requires-clause-name_at
number_of-number-requires-clause-name_at c =
    c.requires.name_at

pub entry_at-at-requires : goal.entry_at-at-requires
entry_at-at-requires c =
    (entered-in _ c.requires.entered).0

pub offset_bounds-register-at : goal.offset_bounds-register-at
offset_bounds-register-at c =
    omega (arith, entry-inside _ _ _ c.args.register.now c.requires.registered _ (statement-inside _ _ _ _ c.requires.registered _ c.requires.name_at) _ (statement-text _ _ _ _ c.requires.registered _ c.requires.name_at) _ c.number_of-number.ensures.0 c.number_of-number.ensures.1 _ c.requires.entered _ c.entry_at-at.ensures, c)

pub bounds-register-at : goal.bounds-register-at
bounds-register-at c =
    entry-inside _ _ _ c.args.register.now c.requires.registered _ (statement-inside _ _ _ _ c.requires.registered _ c.requires.name_at) _ (statement-text _ _ _ _ c.requires.registered _ c.requires.name_at) _ c.number_of-number.ensures.0 c.number_of-number.ensures.1 _ c.requires.entered _ c.entry_at-at.ensures

pub returns : goal.returns
returns c =
    entry-of c.args.register.now _ _ _ _ _ c.found.ensures c.entry_at-at.ensures c.number_of-number.ensures.0
