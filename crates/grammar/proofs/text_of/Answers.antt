use borrow.Author.Rules.{rules}
use Rattle.grammar.proofs.Flat.{text-read}
use Rattle.grammar.proofs.text_of.Goals as goal

pub returns : goal.returns
returns c =
    search (rules, text-read)
