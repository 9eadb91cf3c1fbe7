use mathlib.Core.Path.{sym, ◌∙◌}
use mathlib.Core.Logic.{⊎_elim}
use borrow.Author.Tests.{lt-leb, le-leb}
use Rattle.lists.proofs.Tests.{below}
use Rattle.lists.proofs.Ranges.{through-below, through-above, through-in}
use Rattle.rules.proofs.between.Goals as goal

pub returns-then-low-kind : goal.returns-then-low-kind
returns-then-low-kind c = ⊎_elim
    (λ h. lt-leb _ _ h ∙ sym (through-above _ _ _ c.if-low-kind.true h))
    (λ h. le-leb _ _ h ∙ sym (through-in _ _ _ c.if-low-kind.true h))
    (below c.args.high c.args.kind)

pub returns-else-low-kind : goal.returns-else-low-kind
returns-else-low-kind c =
    lt-leb _ _ c.if-low-kind.false ∙ sym (through-below _ _ _ c.if-low-kind.false)
