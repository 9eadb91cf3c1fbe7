use native.Mathlib.Omega.{arith}
use Rattle.opening.proofs.Both.{statement-sound, schema-declared}
use Rattle.schema_aware.proofs.check_read.Goals as goal

pub is_short-requires : goal.is_short-requires
is_short-requires c =
    omega (arith, (statement-sound _ _ _ c.requires).few_names, (schema-declared _ _ _ c.requires).sheet.few_names)

pub check_within-requires-clause-sizes_in_bounds : goal.check_within-requires-clause-sizes_in_bounds
check_within-requires-clause-sizes_in_bounds c =
    c.is_short.ensures c.if-is_short.true

pub check_within-requires-2-clause-sizes_in_bounds : goal.check_within-requires-2-clause-sizes_in_bounds
check_within-requires-2-clause-sizes_in_bounds c =
    let a = schema-declared _ _ _ c.requires in
    let b = statement-sound _ _ _ c.requires in
    omega (arith, a.sheet.few_names, a.sheet.few_tokens, b.few_names)
