use Rattle.std.proofs.Common.{arith}
use Rattle.frame.proofs.Laws.{sound-read, sound-sized}
use Rattle.show.proofs.show.Goals as goal

pub put_thin-requires : goal.put_thin-requires
put_thin-requires c =
    let sound = sound-read _ _ _ c.read.ensures c.in-Ok.is in
    omega (arith, (sound-sized _ _ sound).size)

pub put_tokens-requires : goal.put_tokens-requires
put_tokens-requires c = sound-read _ _ _ c.read.ensures c.in-Ok.is

pub put_names-requires : goal.put_names-requires
put_names-requires c = sound-read _ _ _ c.read.ensures c.in-Ok.is
