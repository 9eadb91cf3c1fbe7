use Rattle.std.proofs.Common.{sym, refl, ◌∙◌, arith, length-set}
use Rattle.fnv.proofs.Turns.{table_none, spread-is, fill-turn, fill_end}
use Rattle.fnv.proofs.digest.Goals as goal

pub loop-i-init : goal.loop-i-init
loop-i-init c =
    (table_none _, refl, omega arith)

pub loop-i-preserved : goal.loop-i-preserved
loop-i-preserved c = (
  fill-turn _ c.loop-i.byte-items c.loop-i.i 32
      c.loop-i.invariant.0 c.loop-i.invariant.1 c.spread_byte.result
      (omega arith) c.spread_byte.ensures,
  length-set c.loop-i.byte-items _ _ ∙ c.loop-i.invariant.1,
  omega arith,
)

pub returns : goal.returns
returns c =
    fill_end _ c.loop-i.byte-items c.loop-i.i 32 c.loop-i.invariant.0 c.loop-i.invariant.1
    (omega arith) c.loop-i.invariant.2 ∙ sym (spread-is _)
