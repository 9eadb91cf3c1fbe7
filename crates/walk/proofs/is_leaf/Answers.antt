use borrow.Author.Tests.{lt-ltb, le-ltb, eq-eqb, ne_eqb}
use Rattle.walk.specs.Walk.{is_leaf}
use Rattle.walk.proofs.is_leaf.Goals as goal

pub returns-then-kind-lt-PROP : goal.returns-then-kind-lt-PROP
unfolding is_leaf
returns-then-kind-lt-PROP c =
    rw (lt-ltb _ 10 c.if-kind-lt-PROP.true)

pub returns-then-kind-eq-NAME : goal.returns-then-kind-eq-NAME
unfolding is_leaf
returns-then-kind-eq-NAME c =
    rw (le-ltb _ 10 c.if-kind-lt-PROP.false) (rw (eq-eqb _ 50 c.if-kind-eq-NAME.true))

pub returns-else-kind-eq-NAME : goal.returns-else-kind-eq-NAME
unfolding is_leaf
returns-else-kind-eq-NAME c =
    rw (le-ltb _ 10 c.if-kind-lt-PROP.false) (rw (ne_eqb _ 50 c.if-kind-eq-NAME.false))
