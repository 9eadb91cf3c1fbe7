use native.Mathlib.Omega.{arith}
use Rattle.frame.specs.Doc.{doc_of}
use Rattle.text.specs.Text.{bytes}
use Rattle.phrase.proofs.Laws.{put_as, put-join}
use Rattle.phrase.proofs.Named.{on-names}
use Rattle.phrase.proofs.names.put_on_names.Goals as goal

pub returns : goal.returns
unfolding bytes
returns c = (
  put_as (on-names (doc_of c.args.s.now) c.args.i c.kind.result c.value.result
      c.requires.element_at.element c.kind.ensures
      c.value.ensures)
      (put-join c.put_sort-end.ensures.0
      c.put_colons.ensures.0),
  omega (
    arith,
    c.put_sort-end.ensures.1,
    c.put_colons.ensures.1,
  ),
)
