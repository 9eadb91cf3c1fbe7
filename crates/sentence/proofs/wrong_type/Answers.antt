use native.Mathlib.Omega.{arith}
use mathlib.Core.Path.{◌∙◌}
use Rattle.breach.specs.Breach.{statement_in, schema_in}
use Rattle.text.specs.Text.{bytes}
use Rattle.phrase.proofs.Laws.{put_as, put-join, put-length}
use Rattle.sentence.proofs.Sentences.{wrong-type-text}
use Rattle.sentence.proofs.wrong_type.Goals as goal

pub key_of-key-requires-clause-sound : goal.key_of-key-requires-clause-sound
key_of-key-requires-clause-sound c =
    c.requires.lent.sheet

pub key_of-key-requires-clause-s_value : goal.key_of-key-requires-clause-s_value
key_of-key-requires-clause-s_value c =
    c.requires.lent.read

pub key_of-key-requires-clause-map_at : goal.key_of-key-requires-clause-map_at
key_of-key-requires-clause-map_at c =
    c.requires.map_at

pub key_of-key-requires-clause-k_bound : goal.key_of-key-requires-clause-k_bound
key_of-key-requires-clause-k_bound c =
    c.requires.k_bound

pub put_quoted-named-requires-clause-name_at : goal.put_quoted-named-requires-clause-name_at
put_quoted-named-requires-clause-name_at c =
    c.key_of-key.ensures.0

pub put_expected-declared-requires-clause-name_at : goal.put_expected-declared-requires-clause-name_at
put_expected-declared-requires-clause-name_at c =
    c.key_of-key.ensures.0

pub returns : goal.returns
unfolding bytes
returns c = (
  put_as (wrong-type-text (statement_in c.args.s.now)
      c.args.i c.args.k c.key_of-key.result c.key_of-key.ensures.1 (schema_in c.args.d.now) c.key_of-key.ensures.2) (put-join (put-join (put-join (put-join c.put_quoted-named.ensures.0 c.put_expected-declared.ensures.0)
      c.put-but.ensures)
      c.put_got-end.ensures.0)
      c.put.ensures),
  omega (
    arith,
    c.put_quoted-named.ensures.1,
    c.put_expected-declared.ensures.1,
    c.put-but.ensures.ends,
    c.put_got-end.ensures.1,
    c.put.ensures.ends,
  ),
)
