use Rattle.frame.proofs.Laws.{sound-read}
use Rattle.cases.proofs.reading.put_from.Goals as goal

pub put_tokens-requires : goal.put_tokens-requires
put_tokens-requires c = sound-read _ _ _ c.read.ensures c.in-Ok.is
