use mathlib.Core.Path.{◌∙◌, ap}
use Rattle.endian.specs.Endian.{u32_at, u16_at}
use Rattle.frame.proofs.Laws.{end-thin, end-wide}
use Rattle.frame.proofs.end_of.Goals as goal

pub returns-then-thin : goal.returns-then-thin
returns-then-thin c =
    c.u16_at.ensures ∙ ap (u16_at c.args.s.now) c.end_at.ensures ∙ end-thin c.args.s.now c.args.f _ c.requires.thin_value c.args.k c.if-thin.true

pub returns-else-thin : goal.returns-else-thin
returns-else-thin c =
    c.u32_at.ensures ∙ ap (u32_at c.args.s.now) c.end_at-else-thin.ensures ∙ end-wide c.args.s.now c.args.f _ c.requires.thin_value c.args.k c.if-thin.false
