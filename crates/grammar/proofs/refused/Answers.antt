use Rattle.grammar.proofs.Laws.{refused_as}
use Rattle.grammar.proofs.refused.Goals as goal

pub returns : goal.returns
returns c =
    refused_as _ _ c.requires.number_nonzero.0 c.requires.place_lt_refusals
