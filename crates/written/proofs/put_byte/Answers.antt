use mathlib.Core.Path.{refl}
use native.Mathlib.Omega.{arith}
use Rattle.written.proofs.Begun.{text-put}
use Rattle.written.proofs.put_byte.Goals as goal

pub returns : goal.returns
returns c =
    text-put _ _ _ _ _ _ c.place_of-place.ensures (omega (arith, c.requires.at_lt_text)) refl
