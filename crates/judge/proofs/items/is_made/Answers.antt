use Rattle.judge.proofs.OfItems.{made-create, made-merge}
use Rattle.judge.proofs.items.is_made.Goals as goal

pub returns-then-held-eq-CREATE : goal.returns-then-held-eq-CREATE
returns-then-held-eq-CREATE c =
    made-create c.args.kind c.args.held c.if-kind-eq-NODE.true c.if-held-eq-CREATE.true

pub returns-else-held-eq-CREATE : goal.returns-else-held-eq-CREATE
returns-else-held-eq-CREATE c =
    made-merge c.args.kind c.args.held c.if-kind-eq-NODE.true c.if-held-eq-CREATE.false
