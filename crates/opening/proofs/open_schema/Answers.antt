use Rattle.std.proofs.lemmas.Result.{err_from_is_err_and}
use mathlib.Core.Path.{sym, ◌∙◌}
use Rattle.schema.proofs.Openings.{declarations-refused, schema-opened}
use Rattle.opening.proofs.Readings.{schema-unread, schema-read}
use Rattle.opening.proofs.open_schema.Goals as goal

pub returns-in_err-f : goal.returns-in_err-f
returns-in_err-f c =
    let p = err_from_is_err_and c.from_residual.result c.from_residual.ensures.1 in
    rw (p.1, p.2)
    (sym c.in_err-f.was ∙ schema-unread _ _ c.read_as.ensures _ _ c.in_err-f.was)

pub alone_fault-requires : goal.alone_fault-requires
alone_fault-requires c =
    schema-read _ _ c.read_as.ensures _ c.in_ok-f.was

pub returns-in-Some : goal.returns-in-Some
returns-in-Some c =
    declarations-refused _ _ (schema-read _ _ c.read_as.ensures _ c.in_ok-f.was) _ c.alone_fault.ensures _ _ c.in-Some.is

pub returns-in-None : goal.returns-in-None
returns-in-None c =
    schema-opened _ _ (schema-read _ _ c.read_as.ensures _ c.in_ok-f.was) _ c.alone_fault.ensures c.in-None.is
