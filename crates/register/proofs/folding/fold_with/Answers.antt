use native.Mathlib.Omega.{arith}
use lib.Seq.{length-take-le}
use Rattle.register.proofs.Sought.{seeking-named, seeking-sorted}
use Rattle.register.proofs.folding.fold_with.Goals as goal

pub sort-requires-clause-all_named : goal.sort-requires-clause-all_named
sort-requires-clause-all_named g c =
    seeking-named _ _ _ c.requires.folding.schema c.requires.folding.statement _ c.list_sought-many.ensures

pub sort-requires-clause-list_len_bound : goal.sort-requires-clause-list_len_bound
sort-requires-clause-list_len_bound g c =
    omega (arith, length-take-le c.list_sought-many.result c.list_sought-many.new.list c.list_sought-many.ensures.room, c.list_sought-many.ensures.few, c.requires.folding.schema.sheet.few_tokens)

pub fold_names-requires-clause-functions_value : goal.fold_names-requires-clause-functions_value
fold_names-requires-clause-functions_value g c =
    (seeking-sorted _ _ _ c.requires.folding.schema c.requires.folding.statement _ c.list_sought-many.ensures c.sort.ensures).1
