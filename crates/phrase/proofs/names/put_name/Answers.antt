use native.Mathlib.Omega.{arith}
use mathlib.Core.Path.{ap}
use lib.ListN.{length}
use Rattle.phrase.proofs.Laws.{put_as}
use Rattle.phrase.proofs.Named.{text-short}
use Rattle.phrase.proofs.names.put_name.Goals as goal

pub returns : goal.returns
returns c = (
  put_as c.text_of.ensures c.put.ensures,
  omega (
    arith,
    c.put.ensures.ends,
    ap length c.text_of.ensures,
    text-short c.args.s.now
        c.args.f
        c.args.i
        c.requires.sound
        c.requires.name_at,
  ),
)
