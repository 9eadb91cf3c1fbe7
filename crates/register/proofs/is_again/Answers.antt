use native.Mathlib.Omega.{arith}
use Rattle.register.proofs.Entries.{entered-in}
use Rattle.register.proofs.Again.{again-name, again-inside, again-tested}
use Rattle.register.proofs.is_again.Goals as goal

pub number_in-number-requires-clause-registered : goal.number_in-number-requires-clause-registered
number_in-number-requires-clause-registered c =
    c.requires.registered

pub number_in-number-requires-clause-name_at : goal.number_in-number-requires-clause-name_at
number_in-number-requires-clause-name_at c =
    again-name _ _ _ _ c.requires.registered _ _ c.requires.exact c.requires.j_lt_tokens c.requires.j_value

pub entry_at-at-requires : goal.entry_at-at-requires
entry_at-at-requires c =
    (entered-in _ c.requires.exact.0).0

pub offset_bounds-register-at : goal.offset_bounds-register-at
offset_bounds-register-at c =
    omega (arith, again-inside _ _ _ c.args.register.now c.requires.registered _ _ c.requires.exact c.requires.j_lt_tokens c.requires.j_value _ c.number_in-number.ensures.0 c.number_in-number.ensures.1 _ c.entry_at-at.ensures, c)

pub bounds-register-at : goal.bounds-register-at
bounds-register-at c =
    again-inside _ _ _ c.args.register.now c.requires.registered _ _ c.requires.exact c.requires.j_lt_tokens c.requires.j_value _ c.number_in-number.ensures.0 c.number_in-number.ensures.1 _ c.entry_at-at.ensures

pub returns : goal.returns
returns c =
    again-tested _ _ _ c.args.register.now c.requires.registered _ _ c.requires.exact c.requires.j_lt_tokens c.requires.j_value _ c.number_in-number.ensures.0 c.number_in-number.ensures.1 _ c.entry_at-at.ensures
