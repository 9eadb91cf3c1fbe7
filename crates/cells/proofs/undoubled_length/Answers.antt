use borrow.Author.Rules.{rules}
use Rattle.cells.proofs.Contents.{count_turn, count-last}
use Rattle.cells.proofs.undoubled_length.Goals as goal

pub loop-i-preserved : goal.loop-i-preserved
loop-i-preserved c =
    (search rules, search rules, search (rules, count_turn))

pub returns : goal.returns
returns c =
    search (rules, count-last)
