use Rattle.numbers.proofs.Hashes.{few-none, few-some}
use Rattle.numbers.proofs.few.Goals as goal

pub returns-then-n-eq0 : goal.returns-then-n-eq0
returns-then-n-eq0 c =
    few-none _ c.if-n-eq0.true

pub returns : goal.returns
returns c =
    few-some _ _ _ _ c.wide.ensures c.wide-2.ensures c.wide-3.ensures
