use native.Mathlib.Omega.{arith}
use Rattle.of_kind.proofs.Writing.{looped-start, looped-room, looped-turn, looped-end, wrote_kept}
use Rattle.endpoints.proofs.write_pairs.Goals as goal

pub loop-j-init : goal.loop-j-init
loop-j-init c =
    looped-start _ _ _ _ _ _ _ c.requires.from_le_to.0

pub write_start-n-requires-clause-declared : goal.write_start-n-requires-clause-declared
write_start-n-requires-clause-declared c =
    c.requires.declared

pub write_start-n-requires-clause-from_le_to : goal.write_start-n-requires-clause-from_le_to
write_start-n-requires-clause-from_le_to c =
    c.requires.from_le_to

pub write_start-n-requires-clause-j_lt_tokens : goal.write_start-n-requires-clause-j_lt_tokens
write_start-n-requires-clause-j_lt_tokens c =
    omega (arith, c.requires.from_le_to.1, c.loop-j-test.true)

pub write_start-n-requires-clause-j_in_bounds : goal.write_start-n-requires-clause-j_in_bounds
write_start-n-requires-clause-j_in_bounds c =
    looped-room _ _ _ _ _ _ _ _ _ _
    c.loop-j.invariant c.loop-j-test.true (omega (arith, c.requires.to_in_bounds))

pub loop-j-preserved : goal.loop-j-preserved
loop-j-preserved c =
    looped-turn _ _ _ _ _ _ _ _ _ _ c.loop-j.invariant
    c.loop-j-test.true c.write_start-n.ensures

pub shape_of-out : goal.shape_of-out
shape_of-out c =
    wrote_kept c.loop-j.invariant.wrote

pub returns : goal.returns
returns c =
    looped-end _ _ _ _ _ _ _ _ _ _ c.loop-j.invariant c.loop-j-test.false
