use Rattle.grammar.proofs.Laws.{read-refused, read-over, read_whole, read-refusal, read_next}
use mathlib.Core.Path.{◌∙◌}
use Rattle.grammar.proofs.read_tokens.Goals as goal

pub returns-then-q-ge-REFUSALS : goal.returns-then-q-ge-REFUSALS
returns-then-q-ge-REFUSALS c =
    c.fault_at.ensures ∙ read-refused _ _ _ c.one-q.ensures _ _ (read-refusal _ c.if-q-ge-REFUSALS.true)

pub returns-then-q-f : goal.returns-then-q-f
returns-then-q-f c =
    c.fault_at-then-q-f.ensures ∙ read-over _ _ _ c.one-q.ensures _ _ (read_next _ c.if-q-ge-REFUSALS.false) c.requires.tokens c.if-q-f.true

pub returns : goal.returns
returns c =
    read_whole _ _ _ c.one-q.ensures _ _ (read_next _ c.if-q-ge-REFUSALS.false) c.requires.tokens c.if-q-f.false
