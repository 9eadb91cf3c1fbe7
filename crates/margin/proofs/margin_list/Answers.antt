-- The check's answer, and where it is accepted its list sorted (`Answers`).
use Rattle.std.proofs.lemmas.Result.{err_from_is_err_and}
use Rattle.margin.proofs.Answers.{refused-alike, items-there, items-few, sorted-there}
use Rattle.margin.proofs.margin_list.Goals as goal

pub returns-in_err-n : goal.returns-in_err-n
returns-in_err-n c =
    let p = err_from_is_err_and c.from_residual.result c.from_residual.ensures.1 in
    rw (p.1, p.2, ← c.in_err-n.was)
    (refused-alike _ _ _ c.check_schema_aware.ensures _ c.in_err-n.was)

pub sort_items-requires-clause-n_in_bounds : goal.sort_items-requires-clause-n_in_bounds
sort_items-requires-clause-n_in_bounds c =
    items-there _ _ _ c.check_schema_aware.ensures _ c.in_ok-n.was

pub sort_items-requires-clause-n_le_max_tokens : goal.sort_items-requires-clause-n_le_max_tokens
sort_items-requires-clause-n_le_max_tokens c =
    items-few _ _ _ c.check_schema_aware.ensures _ c.in_ok-n.was

pub returns : goal.returns
returns c =
    sorted-there _ _ _ c.check_schema_aware.ensures _ c.in_ok-n.was
    c.sort_items.ensures
