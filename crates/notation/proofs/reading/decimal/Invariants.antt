use Rattle.std.proofs.Common.{◌≡◌, drop}
use Rattle.std.specs.Prelude.{Some}
use Rattle.notation.specs.Digits.{all_more, number_of}
use Rattle.notation.proofs.reading.decimal.Given as goal

abbrev pub invariant-loop-b : goal.invariant-loop-b
invariant-loop-b l = all_more (drop l.b-index l.digits) (Some l.n) ≡ number_of l.digits
