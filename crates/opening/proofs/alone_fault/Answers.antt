use native.Mathlib.Omega.{arith}
use Rattle.register.proofs.Clear.{zeros}
use Rattle.opening.proofs.Alone.{no-clause-sound}
use Rattle.opening.proofs.alone_fault.Goals as goal

pub fill-requires-clause-declared : goal.fill-requires-clause-declared
fill-requires-clause-declared c =
    c.requires

pub fill-requires-clause-sound : goal.fill-requires-clause-sound
fill-requires-clause-sound c =
    no-clause-sound

pub fill-requires-clause-tokens_in_bounds : goal.fill-requires-clause-tokens_in_bounds
fill-requires-clause-tokens_in_bounds c =
    c.is_short.ensures c.if-is_short.true

pub fill-requires-clause-by_index : goal.fill-requires-clause-by_index
fill-requires-clause-by_index c =
    zeros 2561

pub fill-requires-2-clause-declared : goal.fill-requires-2-clause-declared
fill-requires-2-clause-declared c =
    c.requires

pub fill-requires-2-clause-sound : goal.fill-requires-2-clause-sound
fill-requires-2-clause-sound c =
    no-clause-sound

pub fill-requires-2-clause-tokens_in_bounds : goal.fill-requires-2-clause-tokens_in_bounds
fill-requires-2-clause-tokens_in_bounds c =
    omega (arith, c.requires.sheet.few_names, c.requires.sheet.few_tokens)

pub fill-requires-2-clause-by_index : goal.fill-requires-2-clause-by_index
fill-requires-2-clause-by_index c =
    zeros 16385
