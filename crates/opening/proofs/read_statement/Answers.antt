use Rattle.std.proofs.lemmas.Result.{err_from_is_err_and}
use mathlib.Core.Path.{ap, ◌∙◌}
use Rattle.schema.specs.Inner.{on_sheet}
use Rattle.schema.proofs.Openings.{statement-accepted, statement-turned-down}
use Rattle.opening.proofs.read_statement.Goals as goal

pub returns-in_err-on_sheet : goal.returns-in_err-on_sheet
returns-in_err-on_sheet c =
    let p = err_from_is_err_and c.from_residual.result c.from_residual.ensures.1 in
    rw (p.1, p.2)
    (statement-turned-down _ _ _ (c.on_sheet.ensures ∙ ap (on_sheet 1) c.open_statement.ensures) c.in_err-on_sheet.was)

pub returns : goal.returns
returns c =
    statement-accepted _ _ _ (c.on_sheet.ensures ∙ ap (on_sheet 1) c.open_statement.ensures) c.in_ok-on_sheet.was
