use Rattle.std.proofs.Common.{◌≡◌, ◌-◌}
use Rattle.frame.specs.Inner.{Sound}
use Rattle.cases.proofs.reading.put_tokens.Given as goal

abbrev pub invariant-loop-reader : goal.invariant-loop-reader
invariant-loop-reader l = (Sound l.reader.sheet.now l.reader.sizes) × (l.reader.sizes ≡ l.f)

abbrev pub decreases-loop-reader : goal.decreases-loop-reader
decreases-loop-reader l = l.f.tokens - l.reader.at
