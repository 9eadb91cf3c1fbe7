-- Sheets that were read, and lent with their register.
use mathlib.Core.List.{List}
use Prim.Native.Nat.{ℕ}
use Rattle.frame.specs.declared.Sizes.{Sizes}
use Rattle.register.specs.Register.{Registered}
use Rattle.opening.specs.Reading.{BothRead}
use Rattle.opening.proofs.Both.{statement-sound, statement-read, schema-declared}
use Rattle.judge.specs.Judging.{Lent}

pub lent : (s d : List ℕ) (sizes : Sizes) (reg : List ℕ) → BothRead s d sizes → Registered s d sizes reg
    → Lent s d sizes reg
lent s d sizes reg z r =
    record {
      sheet = statement-sound s d sizes z;
      read = statement-read s d sizes z;
      schema = schema-declared s d sizes z;
      register = r;
    }
