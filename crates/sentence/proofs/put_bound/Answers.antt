use native.Mathlib.Omega.{arith}
use Rattle.text.specs.Text.{bytes}
use Rattle.phrase.proofs.Laws.{put_as, put-length}
use Rattle.sentence.proofs.Sentences.{bound-variadic, bound-exact}
use Rattle.sentence.proofs.put_bound.Goals as goal

pub returns-then-variadic : goal.returns-then-variadic
unfolding bytes
returns-then-variadic c = (
  put_as (bound-variadic _ c.if-variadic.true)
      c.put.ensures,
  omega (arith, c.put.ensures.ends),
)

pub returns : goal.returns
unfolding bytes
returns c = (
  put_as (bound-exact _ c.if-variadic.false)
      c.put-2.ensures,
  omega (arith, c.put-2.ensures.ends),
)
