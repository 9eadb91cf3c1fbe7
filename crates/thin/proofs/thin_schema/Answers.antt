use Rattle.std.proofs.lemmas.Result.{err_from_is_err_and}
use mathlib.Core.Path.{ap, ◌∙◌}
use Rattle.schema.specs.Inner.{on_sheet}
use Rattle.thin.proofs.Fitting.{schema-sound, schema-refused, schema-thin}
use Rattle.thin.proofs.thin_schema.Goals as goal

pub fit_thin-requires : goal.fit_thin-requires
fit_thin-requires c =
    schema-sound _ c.args.out.now _ (c.on_sheet.ensures ∙ ap (on_sheet 2) c.open_schema.ensures) _ c.in_ok-f.was

pub returns-in_err-f : goal.returns-in_err-f
returns-in_err-f c =
    let p = err_from_is_err_and c.from_residual.result c.from_residual.ensures.1 in
    rw (p.1, p.2) (schema-refused _ _ _ (c.on_sheet.ensures ∙ ap (on_sheet 2) c.open_schema.ensures) _ c.in_err-f.was)

pub returns : goal.returns
returns c =
    schema-thin _ _ _ (c.on_sheet.ensures ∙ ap (on_sheet 2) c.open_schema.ensures) _ c.in_ok-f.was c.fit_thin.ensures
