use native.Mathlib.Omega.{arith}
use Rattle.endian.proofs.Laws.{stored-in}
use Rattle.written.proofs.Begun.{text-put}
use Rattle.written.proofs.put_text.Goals as goal

pub returns : goal.returns
returns c =
    text-put _ _ _ _ _ _ c.place_of-from.ensures c.requires.piece_bound
    (stored-in c.args.out.now c.args.piece.now _ _ _ c.copy.ensures (omega arith)
    (omega (arith, c.place_of-from.ensures)))
