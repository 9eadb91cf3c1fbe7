use Rattle.in_order.proofs.Marks.{none-marked}
use Rattle.in_order.proofs.once.list_once.Goals as goal

pub list_with-requires-clause-all_below : goal.list_with-requires-clause-all_below
list_with-requires-clause-all_below c =
    c.requires.all_below

pub list_with-requires-clause-marks_value : goal.list_with-requires-clause-marks_value
list_with-requires-clause-marks_value c =
    none-marked 1024

pub list_with-requires-clause-marks_in_bounds : goal.list_with-requires-clause-marks_in_bounds
list_with-requires-clause-marks_in_bounds c =
    c.requires.max_names_in_bounds
