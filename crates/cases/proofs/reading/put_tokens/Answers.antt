use Rattle.token_reader.proofs.Steps.{fewer-left}
use Rattle.cases.proofs.reading.put_tokens.Goals as goal

pub loop-reader-smaller : goal.loop-reader-smaller
loop-reader-smaller c =
    fewer-left _ _ _ c.next-token.ensures.1 c.loop-reader.invariant.1 c.loop-reader-test.true
