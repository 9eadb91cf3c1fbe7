use native.Mathlib.Omega.{arith}
use mathlib.Core.Path.{◌∙◌}
use Rattle.frame.specs.Doc.{doc_of}
use Rattle.grammar.specs.Tree.{tree_of}
use Rattle.text.specs.Text.{bytes}
use Rattle.phrase.proofs.Laws.{put_as, put-join, put-length}
use Rattle.sentence.proofs.Sentences.{undeclared-text}
use Rattle.sentence.proofs.undeclared_key.Goals as goal

pub key_of-key-requires-clause-sound : goal.key_of-key-requires-clause-sound
key_of-key-requires-clause-sound c =
    c.requires.sound

pub key_of-key-requires-clause-s_value : goal.key_of-key-requires-clause-s_value
key_of-key-requires-clause-s_value c =
    c.requires.s_value

pub key_of-key-requires-clause-map_at : goal.key_of-key-requires-clause-map_at
key_of-key-requires-clause-map_at c =
    c.requires.map_at

pub key_of-key-requires-clause-k_bound : goal.key_of-key-requires-clause-k_bound
key_of-key-requires-clause-k_bound c =
    c.requires.k_bound

pub put_quoted-end-requires-clause-name_at : goal.put_quoted-end-requires-clause-name_at
put_quoted-end-requires-clause-name_at c =
    c.key_of-key.ensures.0

pub returns : goal.returns
unfolding bytes
returns c = (
  put_as (undeclared-text (tree_of (doc_of c.args.s.now))
      c.args.i c.args.k c.key_of-key.result
      c.key_of-key.ensures.1)
      (put-join c.put_quoted-end.ensures.0
      c.put_on_names.ensures.0),
  omega (
    arith,
    c.put_quoted-end.ensures.1,
    c.put_on_names.ensures.1,
  ),
)
