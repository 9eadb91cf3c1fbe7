use Rattle.std.proofs.Common.{ap, ℕ, ◌%◌}
use Rattle.fnv.proofs.spread_byte.Goals as goal

pub returns : goal.returns
returns c =
    ap (λ (x : ℕ). x % 256) c.rotate_left.ensures
