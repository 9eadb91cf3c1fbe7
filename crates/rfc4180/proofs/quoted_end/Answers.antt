use Rattle.rfc4180.proofs.Ends.{quoted-first, quoted-more, quoted-done}
use borrow.Author.Rules.{rules}
use Rattle.rfc4180.proofs.quoted_end.Goals as goal

pub loop-step-init : goal.loop-step-init
loop-step-init c =
    search (rules, quoted-first)

pub loop-step-preserved : goal.loop-step-preserved
loop-step-preserved c =
    search (rules, quoted-more)

pub returns : goal.returns
returns c =
    search (rules, quoted-done)
