use Rattle.text.proofs.Turns.{order-cmp}
use Rattle.text.proofs.pair_order.Goals as goal

pub returns : goal.returns
returns g c =
    rw (c.cmp.ensures, c.read.ensures, c.read-2.ensures) (order-cmp _ _)
