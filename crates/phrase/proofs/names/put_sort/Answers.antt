use native.Mathlib.Omega.{arith}
use Rattle.text.specs.Text.{bytes}
use Rattle.phrase.proofs.Laws.{put_as}
use Rattle.phrase.proofs.Named.{sort-node, sort-rel}
use Rattle.phrase.proofs.names.put_sort.Goals as goal

pub returns-then-kind-eq-NODE : goal.returns-then-kind-eq-NODE
unfolding bytes
returns-then-kind-eq-NODE c = (
  put_as (sort-node _ c.if-kind-eq-NODE.true)
      c.put.ensures,
  omega (arith, c.put.ensures.ends),
)

pub returns : goal.returns
unfolding bytes
returns c = (
  put_as (sort-rel _ c.if-kind-eq-NODE.false)
      c.put-2.ensures,
  omega (arith, c.put-2.ensures.ends),
)
