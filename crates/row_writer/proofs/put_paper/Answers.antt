use borrow.Author.Rules.{rules}
use Rattle.row_writer.proofs.Fitting.{all-put, tokens-planned, names-planned}
use Rattle.row_writer.proofs.put_paper.Goals as goal

pub put_tokens-requires : goal.put_tokens-requires
put_tokens-requires c =
    let planned = tokens-planned c.requires.cut c.requires.planned in search rules

pub put_names-requires : goal.put_names-requires
put_names-requires c =
    let planned = names-planned c.requires.cut c.requires.planned in search rules

pub returns : goal.returns
returns c =
    all-put _ _ _ _ c.requires.cut c.requires.planned.sizes c.put_sizes.ensures c.put_tokens.ensures
    c.put_names.ensures
