use native.Mathlib.Omega.{arith}
use Rattle.frame.specs.Doc.{Token}
use mathlib.Core.Path.{ap, ◌∙◌}
use Rattle.frame.proofs.Laws.{sound-sized, token-is}
use Rattle.frame.proofs.value.Goals as goal

pub u32_at-requires : goal.u32_at-requires
u32_at-requires c =
    omega (arith, (sound-sized _ _ c.requires.sound).size)

pub returns : goal.returns
returns c =
    c.u32_at.ensures ∙ ap (λ (x : Token). x.value) (token-is _ _ _ _ c.requires.sound c.requires.i_lt_tokens)
