use Rattle.register.proofs.AnyCase.{no-function, function-entry}
use Rattle.register.proofs.folding.is_function.Goals as goal

pub returns-else-marks-place : goal.returns-else-marks-place
returns-else-marks-place c =
    no-function _ c.args.marks.now c.args.register.now _ _ c.place.ensures c.if-marks-place.false

pub returns-then-marks-place : goal.returns-then-marks-place
returns-then-marks-place c =
    function-entry _ c.args.marks.now c.args.register.now _ _ _ c.place.ensures c.if-marks-place.true c.entry_at.ensures
