use native.Mathlib.Omega.{arith}
use Rattle.rules.specs.declared.Place.TheVariants.{WholeStatement}
use Rattle.grammar.proofs.Skipping.{small-arity, arity-read, may-have}
use Rattle.grammar.proofs.arity_of.Goals as goal

pub returns-then-kind-lt-PROP : goal.returns-then-kind-lt-PROP
returns-then-kind-lt-PROP c =
    (small-arity _ _ _ c.kind-kind.ensures c.if-kind-lt-PROP.true, omega arith)

pub places_of-requires : goal.places_of-requires
places_of-requires c =
    may-have _ _ _ c.kind-kind.ensures _ c.value.ensures WholeStatement c.requires.s_value (omega (arith, c.requires.sound.tokens, c.requires.i_lt_tokens))

pub returns : goal.returns
returns c =
    (arity-read _ _ _ c.kind-kind.ensures _ c.value.ensures _ c.places_of.ensures.0, c.places_of.ensures.1)
