use Rattle.std.proofs.lemmas.Result.{err_from_is_err_and}
use mathlib.Core.Path.{ap, ◌∙◌}
use Rattle.schema.specs.Inner.{on_sheet}
use Rattle.join.proofs.Joining.{first-refused, second-refused, both-stated}
use Rattle.join.proofs.Stated.{stated}
use Rattle.join.proofs.join_statements.Goals as goal

pub fit_joined-requires-clause-stated : goal.fit_joined-requires-clause-stated
fit_joined-requires-clause-stated c =
    stated 1 _ _ _ (c.on_sheet.ensures ∙ ap (on_sheet 1) c.open_statement.ensures) c.in_ok-f.was

pub fit_joined-requires-clause-stated_2 : goal.fit_joined-requires-clause-stated_2
fit_joined-requires-clause-stated_2 c =
    stated 2 _ _ _ (c.on_sheet-2.ensures ∙ ap (on_sheet 2) c.open_statement-2.ensures) c.in_ok-g.was

pub returns-in_err-f : goal.returns-in_err-f
returns-in_err-f c =
    let p = err_from_is_err_and c.from_residual.result c.from_residual.ensures.1 in
    rw (p.1, p.2)
    (first-refused _ _ _ _ (c.on_sheet.ensures ∙ ap (on_sheet 1) c.open_statement.ensures) _ c.in_err-f.was)

pub returns-in_err-g : goal.returns-in_err-g
returns-in_err-g c =
    let p = err_from_is_err_and c.from_residual-in_err-g.result c.from_residual-in_err-g.ensures.1 in
    rw (p.1, p.2)
    (second-refused _ _ _ _ (c.on_sheet.ensures ∙ ap (on_sheet 1) c.open_statement.ensures) _ c.in_ok-f.was _
    (c.on_sheet-2.ensures ∙ ap (on_sheet 2) c.open_statement-2.ensures) _ c.in_err-g.was)

pub returns : goal.returns
returns c =
    both-stated _ _ _ _ (c.on_sheet.ensures ∙ ap (on_sheet 1) c.open_statement.ensures) _ c.in_ok-f.was _
    (c.on_sheet-2.ensures ∙ ap (on_sheet 2) c.open_statement-2.ensures) _ c.in_ok-g.was c.fit_joined.ensures
