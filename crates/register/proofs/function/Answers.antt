use mathlib.Core.Path.{refl}
use Rattle.register.proofs.Filled.{function-read}
use Rattle.register.proofs.Names.{statement-text, statement-inside, number-inside}
use Rattle.register.proofs.Entries.{function-entered}
use Rattle.register.proofs.function.Goals as goal

pub entered-requires-clause-registered : goal.entered-requires-clause-registered
entered-requires-clause-registered c =
    c.requires.registered

pub entered-requires-clause-entered : goal.entered-requires-clause-entered
entered-requires-clause-entered c =
    function-entered

pub entered-requires-clause-name_at : goal.entered-requires-clause-name_at
entered-requires-clause-name_at c =
    c.requires.name_at

pub returns : goal.returns
returns c =
    let i = statement-inside _ _ _ _ c.requires.registered _ c.requires.name_at in let t = statement-text _ _ _ _ c.requires.registered _ c.requires.name_at in function-read _ _ _ c.args.register.now c.requires.registered _ i _ t _ refl (number-inside _ _ _ _ c.requires.registered _ i _ t) _ refl c.entered.ensures
