use native.Mathlib.Omega.{arith}
use Rattle.frame.specs.Doc.{Token}
use mathlib.Core.Path.{ap}
use Rattle.frame.proofs.Laws.{sound-sized, token-is}
use Rattle.frame.proofs.kind.Goals as goal

pub bounds-s-i : goal.bounds-s-i
bounds-s-i c =
    omega (arith, (sound-sized _ _ c.requires.sound).size)

pub returns : goal.returns
returns c =
    ap (λ (x : Token). x.kind) (token-is _ _ _ _ c.requires.sound c.requires.i_lt_tokens)
