use mathlib.Core.Path.{ap}
use native.Mathlib.Omega.{arith}
use Rattle.frame.specs.declared.Sheet.{Sheet}
use Rattle.thinned.proofs.Pieces.{tokens-start, tokens-turn, tokens-last}
use Rattle.thinned.proofs.put_tokens.Goals as goal

pub loop-i-init : goal.loop-i-init
loop-i-init c =
    tokens-start _ _ _

pub value-value-requires-clause-sound : goal.value-value-requires-clause-sound
value-value-requires-clause-sound c =
    c.requires.sound

pub value-value-requires-clause-i_lt_tokens : goal.value-value-requires-clause-i_lt_tokens
value-value-requires-clause-i_lt_tokens c =
    c.loop-i-test.true

pub put_token-requires : goal.put_token-requires
put_token-requires c = record {
  f_in_bounds = omega (arith, c.requires.h_in_bounds, c.loop-i.invariant.size);
  i_lt_tokens = omega (arith, c.loop-i-test.true, ap (λ (g : Sheet). g.tokens) c.requires.h_value);
}

pub loop-i-preserved : goal.loop-i-preserved
loop-i-preserved c =
    tokens-turn _ _ _ c.loop-i.invariant _ _ _ (omega (arith, c.loop-i-test.true, c.requires.sound.tokens))
    c.kind-kind.ensures c.value-value.ensures c.put_token.ensures
    c.put_token.auto.out

pub shape_of-out : goal.shape_of-out
shape_of-out c =
    c.loop-i.invariant.size

pub returns : goal.returns
returns c =
    tokens-last _ _ _ c.loop-i.invariant (omega (arith, c.loop-i-test.false, c.requires.sound.tokens))
