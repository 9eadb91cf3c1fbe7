use native.Mathlib.Omega.{arith}
use Rattle.judge.proofs.keys.is_unbacked.Goals as goal

pub has_few_names-requires : goal.has_few_names-requires
has_few_names-requires c =
    omega (arith, c.requires.lent.schema.sheet.few_names, c.requires.lent.sheet.few_names)

pub unbacked_in-requires-2-clause-names_in_bounds : goal.unbacked_in-requires-2-clause-names_in_bounds
unbacked_in-requires-2-clause-names_in_bounds c =
    omega (arith, c.requires.lent.schema.sheet.few_names, c.requires.lent.sheet.few_names)
