use native.Mathlib.Omega.{arith}
use Rattle.judge.proofs.Wrote.{wrote-length}
use Rattle.judge.proofs.keys.named_items.Goals as goal

pub has_few_names-requires : goal.has_few_names-requires
has_few_names-requires c =
    omega (arith, c.requires.lent.schema.sheet.few_names, c.requires.lent.sheet.few_names)

pub shape_of-list-then-has_few_names : goal.shape_of-list-then-has_few_names
shape_of-list-then-has_few_names c =
    wrote-length c.entered_items.ensures

pub entered_items-requires-2-clause-names_in_bounds : goal.entered_items-requires-2-clause-names_in_bounds
entered_items-requires-2-clause-names_in_bounds c =
    omega (arith, c.requires.lent.schema.sheet.few_names, c.requires.lent.sheet.few_names)

pub shape_of-list : goal.shape_of-list
shape_of-list c =
    wrote-length c.entered_items-2.ensures
