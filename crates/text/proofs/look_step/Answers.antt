use borrow.Author.Rules.{rules}
use Rattle.text.proofs.ReadTurns.{told-read}
use Rattle.text.proofs.look_step.Goals as goal

pub look_on-two-requires-clause-told : goal.look_on-two-requires-clause-told
look_on-two-requires-clause-told g c =
    told-read g.R.Reading.read c.args.a.now c.args.b.now _ _ _ c.requires.pairs_bound (search rules) (search rules)
    c.look_at-one.ensures.value c.look_at-one.ensures.pairs_after
