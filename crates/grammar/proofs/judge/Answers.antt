use mathlib.Core.Path.{ap, ◌∙◌}
use mathlib.Core.Bool.{not}
use Rattle.grammar.proofs.Judged.{judged-out, judged-wrong, judged-deep, judged-sound}
use Rattle.grammar.proofs.judge.Goals as goal

pub returns-then-f-at : goal.returns-then-f-at
returns-then-f-at c =
    c.fault_at.ensures ∙ judged-out _ _ _ _ _ c.requires.tokens c.if-f-at.true

pub returns-then-not-allowed : goal.returns-then-not-allowed
returns-then-not-allowed c =
    c.fault_at-then-not-allowed.ensures ∙ judged-wrong _ _ _ _ _ c.requires.tokens c.if-f-at.false _ c.allowed.ensures
    (ap not c.if-not-allowed.true)

pub returns-then-depth-gt-MAX_DEPTH : goal.returns-then-depth-gt-MAX_DEPTH
returns-then-depth-gt-MAX_DEPTH c =
    c.fault_at-then-depth-gt-MAX_DEPTH.ensures ∙ judged-deep _ _ _ _ _ c.requires.tokens c.if-f-at.false _ c.allowed.ensures
    (ap not c.if-not-allowed.false)
    c.if-depth-gt-MAX_DEPTH.true

pub returns : goal.returns
returns c =
    judged-sound _ _ _ _ _ c.requires.tokens c.if-f-at.false _ c.allowed.ensures
    (ap not c.if-not-allowed.false)
    c.if-depth-gt-MAX_DEPTH.false
