use mathlib.Core.Path.{sym, ◌∙◌}
use Rattle.rfc4180.proofs.Ends.{inner-comma, inner-cr, inner-lf, inner-none}
use Rattle.rfc4180.proofs.inner.Goals.{then-has-2-via-then-has-2, then-has-2-via-else-has-2+then-has-3, then-has-2-via-else-has-2+else-has-3+then-has-4}
use Rattle.rfc4180.proofs.inner.Goals as goal

pub returns-then-has-2 : goal.returns-then-has-2
returns-then-has-2 c =
    elim c.then-has-2.branch [
      | then-has-2-via-then-has-2 w ↦ inner-comma _ _ c.has-2.ensures w.if-has-2.true
      | then-has-2-via-else-has-2+then-has-3 w ↦ inner-cr _ _ w.has-else-has-2.ensures w.if-has-3.true
      | then-has-2-via-else-has-2+else-has-3+then-has-4 w ↦ inner-lf _ _ w.has-else-has-3.ensures w.if-has-4.true
    ]

pub returns : goal.returns
returns c =
    inner-none _ _ c.requires
    (sym c.has.ensures ∙ c.if-has.false)
    (sym c.has-2.ensures ∙ c.if-has-2.false)
    (sym c.has-else-has-2.ensures ∙ c.if-has-3.false)
    (sym c.has-else-has-3.ensures ∙ c.if-has-4.false)
