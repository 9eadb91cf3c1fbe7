use Rattle.std.proofs.lemmas.Result.{err_from_is_err_and}
use mathlib.Core.Path.{ap, ◌∙◌}
use Rattle.schema.specs.Inner.{on_sheet}
use Rattle.opening.proofs.Both.{statement-first, schema-second, both_read}
use Rattle.opening.proofs.read_both.Goals as goal

pub returns-in_err-f : goal.returns-in_err-f
returns-in_err-f c =
    let p = err_from_is_err_and c.from_residual.result c.from_residual.ensures.1 in
    rw (p.1, p.2)
    (statement-first _ _ _ (c.on_sheet.ensures ∙ ap (on_sheet 1) c.read_as.ensures) _ c.in_err-f.was)

pub returns-in_err-g : goal.returns-in_err-g
returns-in_err-g c =
    let p = err_from_is_err_and c.from_residual-in_err-g.result c.from_residual-in_err-g.ensures.1 in
    rw (p.1, p.2)
    (schema-second _ _ _ (c.on_sheet.ensures ∙ ap (on_sheet 1) c.read_as.ensures) _ c.in_ok-f.was _
    (c.on_sheet-2.ensures ∙ ap (on_sheet 2) c.read_as-2.ensures) _ c.in_err-g.was)

pub returns : goal.returns
returns c =
    both_read _ _ _ (c.on_sheet.ensures ∙ ap (on_sheet 1) c.read_as.ensures) _ c.in_ok-f.was _
    (c.on_sheet-2.ensures ∙ ap (on_sheet 2) c.read_as-2.ensures) _ c.in_ok-g.was
