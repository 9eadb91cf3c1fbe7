use native.Mathlib.Omega.{arith}
use Prim.Native.Nat.{ℕ, ◌+◌, ◌-◌, ◌/◌}
use mathlib.Core.Path.{ap}
use mathlib.Core.List.{List}
use Rattle.frame.specs.Doc.{doc_of}
use Rattle.judge.proofs.Merging.{numbers-are, keys-are}
use Rattle.in_order.specs.InOrder.{in_order}
use Rattle.phrase.specs.Phrase.{joined}
use Rattle.text.specs.Text.{bytes}
use Rattle.phrase.proofs.Laws.{put_as, put-length}
use Rattle.sentence.proofs.Sentences.{props-are, map-there, map-kind, taken-few}
use Rattle.sentence.proofs.put_key_set.Goals as goal

pub collect_keys-many-requires-clause-map_lt_tokens : goal.collect_keys-many-requires-clause-map_lt_tokens
collect_keys-many-requires-clause-map_lt_tokens c =
    omega (
      arith,
      c.requires.sound.tokens,
      map-there _ _ _
          c.requires.map_at c.value.ensures,
    )

pub collect_keys-many-requires-clause-map_value : goal.collect_keys-many-requires-clause-map_value
collect_keys-many-requires-clause-map_value c =
    map-kind _ _ _ c.requires.map_at c.value.ensures

pub put_in_order-requires-clause-numbers : goal.put_in_order-requires-clause-numbers
put_in_order-requires-clause-numbers c =
    numbers-are (doc_of c.args.s.now)
    c.requires.s_value
    (c.args.i + 3 + c.value.result / 2) _ _
    (map-there _ _ _ c.requires.map_at
    c.value.ensures)
    (map-kind _ _ _ c.requires.map_at
    c.value.ensures)
    c.collect_keys-many.ensures
    (c.collect_keys-many.result - 0) (omega arith)

pub put_in_order-requires-clause-numbers_len_bound : goal.put_in_order-requires-clause-numbers_len_bound
put_in_order-requires-clause-numbers_len_bound c =
    taken-few c.collect_keys-many.ensures
    (c.collect_keys-many.result - 0) (omega arith)
    (omega (arith, c.collect_keys-many.auto.keys))

pub returns : goal.returns
returns c = (
  put_as (ap (λ (l : List (List ℕ)). joined (bytes ", ") (in_order l))
      (keys-are (doc_of c.args.s.now) c.requires.s_value (c.args.i + 3 + c.value.result /
      2) _ _ (map-there _ _ _ c.requires.map_at c.value.ensures) (map-kind _ _ _ c.requires.map_at c.value.ensures) c.collect_keys-many.ensures
      (c.collect_keys-many.result - 0)
      c.args.i
      (omega arith) (props-are (doc_of c.args.s.now) c.args.i _ c.requires.map_at c.value.ensures))) c.put_in_order.ensures.0,
  c.put_in_order.ensures.1,
)
