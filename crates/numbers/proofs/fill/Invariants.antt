use Rattle.numbers.specs.Least.{texts_of}
use Rattle.numbers.proofs.Filling.{Going}
use Rattle.numbers.proofs.fill.Given as goal

abbrev pub invariant-loop-i : goal.invariant-loop-i
invariant-loop-i l = Going l.top (texts_of l.sheets.schema.now l.sheets.statement.now) l.n l.i l.initial.ids l.initial.heads l.initial.links l.initial.marks l.ids l.heads l.links l.marks
