use native.Mathlib.Omega.{arith}
use mathlib.Core.Path.{sym}
use lib.Seq.{length-take-le}
use Rattle.frame.specs.Doc.{doc_of}
use Rattle.in_order.proofs.Marks.{once-named, once-sorted}
use Rattle.in_order.proofs.once.list_in_order.Goals as goal

pub list_once-many-requires-clause-all_below : goal.list_once-many-requires-clause-all_below
list_once-many-requires-clause-all_below c =
    λ i h. omega (arith, c.requires.numbers i h, c.requires.sound.names, c.requires.sound.few_names)

pub list_once-many-requires-clause-max_names_in_bounds : goal.list_once-many-requires-clause-max_names_in_bounds
list_once-many-requires-clause-max_names_in_bounds c =
    omega (arith, c.requires.list_len)

pub slice_bounds-sort-end-2 : goal.slice_bounds-sort-end-2
slice_bounds-sort-end-2 c =
    sym (length-take-le _ _ c.list_once-many.ensures.few)

pub sort-requires-clause-sound : goal.sort-requires-clause-sound
sort-requires-clause-sound c =
    c.requires.sound

pub sort-requires-clause-all_named : goal.sort-requires-clause-all_named
sort-requires-clause-all_named c =
    once-named (doc_of c.args.s.now) c.args.numbers.now c.list_once-many.new.list c.list_once-many.result c.list_once-many.ensures c.requires.numbers

pub sort-requires-clause-list_len_bound : goal.sort-requires-clause-list_len_bound
sort-requires-clause-list_len_bound c =
    omega (arith, length-take-le c.list_once-many.result c.list_once-many.new.list c.list_once-many.ensures.few, c.list_once-many.ensures.few, c.list_once-many.auto.list, c.requires.list_len)

pub returns : goal.returns
returns c =
    once-sorted _ _ _ _ c.list_once-many.ensures c.requires.numbers c.sort.ensures
