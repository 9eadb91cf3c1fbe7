use mathlib.Core.Path.{refl}
use native.Mathlib.Omega.{arith}
use Rattle.phrase.proofs.Laws.{copied}
use Rattle.phrase.proofs.put.Goals as goal

pub returns : goal.returns
returns c =
    record {
      ends = refl;
      buffer = copied c.args.piece.now c.args.at c.min-start.result c.min-many.result _ c.args.text.now
          c.copy.new.to c.min-start.ensures c.min-many.ensures (omega arith) c.copy.ensures;
    }
