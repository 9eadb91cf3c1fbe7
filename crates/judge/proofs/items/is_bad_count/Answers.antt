use Rattle.judge.proofs.OfItems.{bad-variadic, bad-exact}
use Rattle.judge.proofs.items.is_bad_count.Goals as goal

pub returns-then-variadic : goal.returns-then-variadic
returns-then-variadic c =
    bad-variadic _ c.args.parameters c.args.n c.if-variadic.true

pub returns-else-variadic : goal.returns-else-variadic
returns-else-variadic c =
    bad-exact _ c.args.parameters c.args.n c.if-variadic.false
