use native.Mathlib.Omega.{arith}
use Prim.Native.Nat.{ℕ, ◌+◌, ◌/◌, ◌<◌}
use mathlib.Core.Path.{◌≡◌, sym, subst}
use Rattle.frame.specs.Doc.{doc_of, kind_of, value_of}
use Rattle.sentence.proofs.Sentences.{key-there, key-text, key-after}
use Rattle.sentence.proofs.key_of.Goals as goal

pub key_at-requires-clause-sound : goal.key_at-requires-clause-sound
key_at-requires-clause-sound c =
    c.requires.sound

pub key_at-requires-clause-s_value : goal.key_at-requires-clause-s_value
key_at-requires-clause-s_value c =
    c.requires.s_value

pub key_at-requires-clause-map_lt_tokens : goal.key_at-requires-clause-map_lt_tokens
key_at-requires-clause-map_lt_tokens c =
    omega (arith, c.requires.sound.tokens, c.requires.map_at.inside, c.value.ensures)

pub key_at-requires-clause-map_value : goal.key_at-requires-clause-map_value
key_at-requires-clause-map_value c =
    subst (λ (v : ℕ). kind_of (doc_of c.args.s.now) (c.args.i + 3 + v / 2)
    ≡ 14)
    (sym c.value.ensures) c.requires.map_at.map

pub key_at-requires-clause-k_bound : goal.key_at-requires-clause-k_bound
key_at-requires-clause-k_bound c =
    subst
    (λ (v : ℕ). c.args.k < value_of (doc_of c.args.s.now)
    (c.args.i + 3 + v / 2)) (sym c.value.ensures) c.requires.k_bound

pub returns : goal.returns
returns c = (
  key-there (doc_of c.args.s.now) c.requires.s_value
      c.args.i c.args.k c.value.result _
      c.requires.map_at c.requires.k_bound c.value.ensures
      c.key_at.ensures,
  key-text (doc_of c.args.s.now)
      c.requires.s_value c.args.i c.args.k
      c.value.result _ c.requires.map_at c.requires.k_bound
      c.value.ensures c.key_at.ensures,
  key-after (doc_of c.args.s.now)
      c.requires.s_value c.args.i c.args.k
      c.value.result _ c.requires.map_at c.requires.k_bound
      c.value.ensures c.key_at.ensures,
)
