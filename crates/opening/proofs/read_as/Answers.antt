use Rattle.std.proofs.lemmas.Result.{err_from_is_err_and}
use mathlib.Core.Path.{sym, ◌∙◌}
use Rattle.frame.proofs.Laws.{sound-read}
use Rattle.opening.proofs.Readings.{unframed, unread, all_read}
use Rattle.opening.proofs.read_as.Goals as goal

pub returns-in_err-f : goal.returns-in_err-f
returns-in_err-f c =
    let p = err_from_is_err_and c.from_residual.result c.from_residual.ensures.1 in
    rw (p.1, p.2)
    (sym c.in_err-f.was ∙ unframed _ _ _ _ _ c.read.ensures c.in_err-f.was)

pub read_tokens-requires : goal.read_tokens-requires
read_tokens-requires c =
    sound-read _ _ _ c.read.ensures c.in_ok-f.was

pub returns-in-Some : goal.returns-in-Some
returns-in-Some c =
    unread _ _ _ (sound-read _ _ _ c.read.ensures c.in_ok-f.was) _ c.read_tokens.ensures _ _ c.in-Some.is

pub returns-in-None : goal.returns-in-None
returns-in-None c =
    all_read _ _ _ (sound-read _ _ _ c.read.ensures c.in_ok-f.was) _ c.read_tokens.ensures c.in-None.is
