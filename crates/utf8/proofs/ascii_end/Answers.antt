use borrow.Author.Rules.{rules}
use Rattle.utf8.proofs.Ascii.{ascii-on}
use Rattle.utf8.proofs.ascii_end.Goals as goal

pub loop-i-preserved : goal.loop-i-preserved
loop-i-preserved c =
    (search rules, search rules, search (rules, ascii-on))
