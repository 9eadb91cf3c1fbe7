use Prim.Native.Nat.{◌-◌}
use Rattle.rows.proofs.Finding.{Passed}
use Rattle.rows.proofs.find_row.Given as goal

abbrev pub invariant-loop-j : goal.invariant-loop-j
invariant-loop-j l = Passed l.text l.k l.at l.j
