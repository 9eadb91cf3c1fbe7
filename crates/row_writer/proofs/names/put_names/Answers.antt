use Rattle.row_writer.proofs.Putting.{text-split, names-all}
use Rattle.row_writer.specs.Inner.{contents_in}
use native.Mathlib.Omega.{arith}
use mathlib.Core.Path.{refl}
use Rattle.row_writer.proofs.names.put_names.Goals as goal

pub overflow_cast-end : goal.overflow_cast-end
overflow_cast-end c =
    let split = text-split c.args.label.now (contents_in c.args.header.now) in
    omega (arith, c.requires.header_len_bound, split)

pub put_text-requires-clause-f_in_bounds : goal.put_text-requires-clause-f_in_bounds
put_text-requires-clause-f_in_bounds c =
    let split = text-split c.args.label.now (contents_in c.args.header.now) in c.requires.f_in_bounds

pub put_text-requires-clause-piece_bound : goal.put_text-requires-clause-piece_bound
put_text-requires-clause-piece_bound c =
    let split = text-split c.args.label.now (contents_in c.args.header.now) in omega (arith, c.requires.header_len_bound, split)

pub put_headers-requires-clause-header_bound : goal.put_headers-requires-clause-header_bound
put_headers-requires-clause-header_bound c =
    let split = text-split c.args.label.now (contents_in c.args.header.now) in c.requires.header_bound

pub put_headers-requires-clause-header_bound_2 : goal.put_headers-requires-clause-header_bound_2
put_headers-requires-clause-header_bound_2 c =
    let split = text-split c.args.label.now (contents_in c.args.header.now) in omega (arith, c.requires.header_len_bound, split)

pub returns : goal.returns
returns c =
    let headers = contents_in c.args.header.now in
    names-all headers c.put_text.ensures c.put_end.ensures refl c.put_headers.ensures
