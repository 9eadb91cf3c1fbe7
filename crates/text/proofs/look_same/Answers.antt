use borrow.Author.Rules.{rules}
use mathlib.Core.Path.{◌∙◌}
use Rattle.text.proofs.Turns.{same-eq}
use Rattle.text.proofs.ReadTurns.{lengths-decide-read, lengths-leave-read}
use Rattle.text.proofs.look_same.Goals as goal

pub returns-then-a-b-clause-value : goal.returns-then-a-b-clause-value
returns-then-a-b-clause-value g c =
    (lengths-decide-read g.R.Reading.read c.args.a.now c.args.b.now (search rules)).0

pub returns-then-a-b-clause-pairs_after : goal.returns-then-a-b-clause-pairs_after
returns-then-a-b-clause-pairs_after g c =
    c.requires ∙ (lengths-decide-read g.R.Reading.read c.args.a.now c.args.b.now (search rules)).1

pub returns-clause-value : goal.returns-clause-value
returns-clause-value g c =
    same-eq _ _ _ _ c.is_eq.ensures c.look_order.ensures.value

pub returns-clause-pairs_after : goal.returns-clause-pairs_after
returns-clause-pairs_after g c =
    c.look_order.ensures.pairs_after ∙ lengths-leave-read g.R.Reading.read c.args.a.now c.args.b.now (search rules)
