use Rattle.std.proofs.Common.{ℕ, ap, ◌∙◌, ◌*◌, ◌%◌, ◌^◌}
use lib.Bits.{bit_xor}
use Rattle.fnv.specs.Fnv.{prime}
use Rattle.fnv.proofs.Turns.{feed-turn, feed-end}
use Rattle.fnv.proofs.feed.Goals as goal

pub loop-b-preserved : goal.loop-b-preserved
loop-b-preserved c =
    feed-turn _ _ _ _ c.loop-b.invariant _
    (c.wrapping_mul-h.ensures ∙ ap (λ (b : ℕ). bit_xor b c.loop-b.h * prime % 2 ^ 64) c.from.ensures) c.loop-b-test.true

pub returns : goal.returns
returns c =
    feed-end _ _ _ _ c.loop-b.invariant c.loop-b-test.false
