use borrow.Author.Rules.{rules}
use mathlib.Core.Path.{◌∙◌, sym}
use Rattle.utf8.proofs.Ascii.{between}
use Rattle.utf8.proofs.onward.Goals as goal

pub returns : goal.returns
returns c = (
  search rules,
  search rules,
  between _ _ (search rules) ∙ c.ascii_end.ensures.2 ∙ sym (between _ _ (search rules)),
)
