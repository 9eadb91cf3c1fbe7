use Rattle.rfc4180.specs.Scan.{Texts}
use Rattle.rfc4180.proofs.text_end.Given as goal

abbrev pub invariant-loop-i : goal.invariant-loop-i
invariant-loop-i l = Texts l.text l.from l.i
