use Rattle.row_writer.proofs.Fitting.{bad-name, past_limit, no_room, paper-put, bytes-planned}
use Rattle.row_writer.proofs.Within.{within-limits}
use Rattle.schema.proofs.Effects.{refuses}
use native.Mathlib.Omega.{arith}
use mathlib.Core.Path.{sym, ◌∙◌}
use Rattle.row_writer.proofs.fit_paper.Goals as goal

pub returns-in-Some : goal.returns-in-Some
returns-in-Some c =
    bad-name _ _ _ _ c.requires _ _ c.name_fault.ensures _ _
    c.in-Some.is (refuses _ 1 _ _ c.refused.ensures)

pub returns-then-not-is_within : goal.returns-then-not-is_within
returns-then-not-is_within c =
    past_limit _ _ _ _ c.requires _ _ c.name_fault.ensures _
    c.in_default.is c.is_within.ensures c.if-not-is_within.true
    (refuses 19 0 0 _ c.refused-then-not-is_within.ensures)

pub overflow_cast-place : goal.overflow_cast-place
overflow_cast-place c =
    let within = sym c.is_within.ensures ∙ c.if-not-is_within.false in
    omega (arith, (within-limits _ _ _ _ within).0)

pub sizes_of-f-requires-clause-cells_bound : goal.sizes_of-f-requires-clause-cells_bound
sizes_of-f-requires-clause-cells_bound c =
    let within = sym c.is_within.ensures ∙ c.if-not-is_within.false in let limits = within-limits _ _ _ _ within in omega (arith, limits.0)

pub sizes_of-f-requires-clause-header_len_bound : goal.sizes_of-f-requires-clause-header_len_bound
sizes_of-f-requires-clause-header_len_bound c =
    let within = sym c.is_within.ensures ∙ c.if-not-is_within.false in let limits = within-limits _ _ _ _ within in limits.2

pub returns-then-out-bytes : goal.returns-then-out-bytes
returns-then-out-bytes c =
    no_room _ _ _ _ c.requires _ _ c.name_fault.ensures _
    c.in_default.is c.is_within.ensures c.if-not-is_within.false _
    c.sizes_of-f.ensures _ c.length_of-bytes.ensures c.if-out-bytes.true
    (refuses 16 0 0 _ c.refused-then-out-bytes.ensures)

pub put_paper-requires-clause-cut : goal.put_paper-requires-clause-cut
put_paper-requires-clause-cut c =
    c.requires

pub put_paper-requires-clause-planned : goal.put_paper-requires-clause-planned
put_paper-requires-clause-planned c =
    record {
      sizes = c.sizes_of-f.ensures;
      within = sym c.is_within.ensures ∙ c.if-not-is_within.false;
    }

pub put_paper-requires-clause-f_in_bounds : goal.put_paper-requires-clause-f_in_bounds
put_paper-requires-clause-f_in_bounds c =
    omega (arith, c.if-out-bytes.false, c.length_of-bytes.ensures)

pub overflow_cast-result : goal.overflow_cast-result
overflow_cast-result c =
    let planned = bytes-planned {label = c.args.label.now} {header = c.args.header.now}
    {row = c.args.row.now} {place = c.args.place} c.requires
    (record {
      sizes = c.sizes_of-f.ensures;
      within = sym c.is_within.ensures ∙ c.if-not-is_within.false;
    }) in
    omega (arith, c.length_of-bytes.ensures, planned)

pub returns : goal.returns
returns c =
    paper-put _ _ _ _ c.requires _ _ c.name_fault.ensures _
    c.in_default.is c.is_within.ensures c.if-not-is_within.false _
    c.sizes_of-f.ensures _ c.length_of-bytes.ensures (omega (arith, c.if-out-bytes.false))
    c.put_paper.ensures
