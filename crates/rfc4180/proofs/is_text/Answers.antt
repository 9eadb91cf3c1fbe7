use borrow.Author.Rules.{rules}
use mathlib.Core.Logic.{⊎_elim}
use Rattle.rfc4180.proofs.Scans.{quote-byte, comma-byte, delete-byte, from-space}
use Rattle.rfc4180.proofs.is_text.Goals as goal

pub returns-in-34 : goal.returns-in-34
returns-in-34 c =
    ⊎_elim (quote-byte c.args.b) (⊎_elim (comma-byte c.args.b) (delete-byte c.args.b)) c.in-34.is

pub returns-in_default : goal.returns-in_default
returns-in_default c =
    search (rules, from-space)
