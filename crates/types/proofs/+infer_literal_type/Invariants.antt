use Prim.Native.Nat.{◌-◌}
use Rattle.types.proofs.+infer_literal_type.Given as goal

abbrev pub decreases-infer_literal_type : goal.decreases-infer_literal_type
decreases-infer_literal_type l = l.f.tokens - l.at
