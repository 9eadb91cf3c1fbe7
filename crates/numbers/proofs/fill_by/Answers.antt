use Rattle.numbers.proofs.Chains.{heads-none}
use Rattle.numbers.proofs.fill_by.Goals as goal

pub fill-requires-clause-heads : goal.fill-requires-clause-heads
fill-requires-clause-heads g c =
    heads-none _ _ c.requires.some_chains c.requires.few_chains
