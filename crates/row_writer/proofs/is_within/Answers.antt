use Rattle.row_writer.proofs.Within.{many-names, far-span, long-text, all-within}
use native.Mathlib.Omega.{arith}
use Rattle.row_writer.proofs.is_within.Goals as goal

pub returns-then-row : goal.returns-then-row
returns-then-row c =
    many-names _ _ _ _ c.if-row.true

pub returns-then-row-gt-LAST : goal.returns-then-row-gt-LAST
returns-then-row-gt-LAST c =
    far-span _ _ _ _ c.if-row-gt-LAST.true

pub returns-then-most-label : goal.returns-then-most-label
returns-then-most-label c =
    long-text _ _ _ _ (omega (arith, c.if-most-label.true))

pub returns-then-most-label-2 : goal.returns-then-most-label-2
returns-then-most-label-2 c =
    long-text _ _ _ _ (omega (arith, c.if-most-label-2.true, c.text_length.ensures))

pub returns : goal.returns
returns c =
    all-within _ _ _ _ (omega (arith, c.if-row.false)) (omega (arith, c.if-row-gt-LAST.false))
    (omega (arith, c.if-most-label-2.false, c.text_length.ensures, c.if-most-label.false))
