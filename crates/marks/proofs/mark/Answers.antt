use mathlib.Core.Path.{ap, ◌∙◌}
use lib.Dec.{eqb}
use lib.ListN.{set}
use Prim.Native.Nat.{ℕ}
use Rattle.marks.proofs.Laws.{mark-read, mark_set}
use Rattle.marks.proofs.mark.Goals as goal

pub returns-clause-value : goal.returns-clause-value
returns-clause-value c =
    ap (λ (x : ℕ). eqb x 1) c.replace.ensures.value ∙ mark-read c.args.marks.now _ _ c.number_of-at.ensures.0

pub returns-clause-marks_after : goal.returns-clause-marks_after
returns-clause-marks_after c =
    ap (λ (x : ℕ). set c.args.marks.now c.number_of-at.result x) c.replace.ensures.after
    ∙ mark_set c.args.marks.now _ _ c.number_of-at.ensures.0
