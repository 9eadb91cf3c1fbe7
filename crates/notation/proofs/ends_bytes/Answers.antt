use Rattle.notation.proofs.Laws.{two-each, four-each}
use Rattle.notation.proofs.ends_bytes.Goals as goal

pub returns-then-thin : goal.returns-then-thin
returns-then-thin c =
    two-each c.args.thin c.args.ends c.if-thin.true

pub returns : goal.returns
returns c =
    four-each c.args.thin c.args.ends c.if-thin.false
