use borrow.Author.Tests.{eq-eqb, ne_eqb}
use Rattle.judge.proofs.items.undeclared_code.Goals as goal

pub returns-then-kind-eq-NODE : goal.returns-then-kind-eq-NODE
returns-then-kind-eq-NODE c =
    rw (eq-eqb _ _ c.if-kind-eq-NODE.true)

pub returns-else-kind-eq-NODE : goal.returns-else-kind-eq-NODE
returns-else-kind-eq-NODE c =
    rw (ne_eqb _ _ c.if-kind-eq-NODE.false)
