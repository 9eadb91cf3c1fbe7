use mathlib.Core.Path.{◌∙◌, sym}
use Rattle.text.proofs.ReadTurns.{told-read}
use Rattle.text.proofs.look_on.Goals as goal

pub look_at-requires-clause-pairs_bound : goal.look_at-requires-clause-pairs_bound
look_at-requires-clause-pairs_bound g c =
    c.requires.told.0 (sym c.is_ne.ensures ∙ c.if-is_ne.false)

pub returns-clause-told_2 : goal.returns-clause-told_2
returns-clause-told_2 g c =
    let e = c.requires.told.0 (sym c.is_ne.ensures ∙ c.if-is_ne.false) in
    told-read g.R.Reading.read c.args.a.now c.args.b.now _ _ _ e c.requires.pairs_in_bounds.0 c.requires.pairs_in_bounds.1
    c.look_at.ensures.value c.look_at.ensures.pairs_after
