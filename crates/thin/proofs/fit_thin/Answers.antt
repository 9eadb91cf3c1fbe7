use mathlib.Core.Path.{refl}
use native.Mathlib.Omega.{arith}
use Rattle.schema.proofs.Effects.{refuses}
use Rattle.thin.proofs.Fitting.{no_room, thin-put, bytes-few, within}
use Rattle.thin.proofs.fit_thin.Goals as goal

pub length_of-bytes-requires-clause-names_le_max_names : goal.length_of-bytes-requires-clause-names_le_max_names
length_of-bytes-requires-clause-names_le_max_names c =
    (within _ _ c.requires c.args.out.now _ refl).0

pub length_of-bytes-requires-clause-text_le_max_text : goal.length_of-bytes-requires-clause-text_le_max_text
length_of-bytes-requires-clause-text_le_max_text c =
    (within _ _ c.requires c.args.out.now _ refl).1

pub returns-then-out-bytes : goal.returns-then-out-bytes
returns-then-out-bytes c =
    no_room _ _ c.requires _ _ c.length_of-bytes.ensures c.if-out-bytes.true (refuses 16 0 0 _ c.refused.ensures)

pub put_thin-requires-clause-sound : goal.put_thin-requires-clause-sound
put_thin-requires-clause-sound c =
    c.requires

pub put_thin-requires-clause-f_in_bounds : goal.put_thin-requires-clause-f_in_bounds
put_thin-requires-clause-f_in_bounds c =
    omega (arith, c.length_of-bytes.ensures, c.if-out-bytes.false)

pub overflow_cast-result : goal.overflow_cast-result
overflow_cast-result c =
    omega (arith, bytes-few _ _ c.requires c.args.out.now _ c.length_of-bytes.ensures)

pub returns : goal.returns
returns c =
    thin-put _ _ c.requires c.args.out.now _ c.length_of-bytes.ensures c.if-out-bytes.false c.put_thin.ensures
