use Rattle.numbers.specs.Least.{texts_of}
use Rattle.numbers.proofs.Chains.{Walk}
use Rattle.numbers.proofs.Alike.{Passed}
use Rattle.numbers.proofs.least_same.Given as goal

abbrev pub invariant-loop-at : goal.invariant-loop-at
invariant-loop-at l = Walk l.top (texts_of l.sheets.schema.now l.sheets.statement.now) l.i l.at × Passed (texts_of l.sheets.schema.now l.sheets.statement.now) l.i l.at l.initial.marks l.marks

abbrev pub decreases-loop-at : goal.decreases-loop-at
decreases-loop-at l = l.at
