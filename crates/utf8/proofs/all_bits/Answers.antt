use borrow.Author.Rules.{rules}
use Rattle.utf8.proofs.Ascii.{ascii-step}
use Rattle.utf8.proofs.all_bits.Goals as goal

pub returns : goal.returns
returns c =
    ascii-step c.args.s.now c.args.i (search rules)
