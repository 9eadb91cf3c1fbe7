use native.Mathlib.Omega.{arith}
use Prim.Native.Nat.{ℕ, ◌+◌, ◌/◌}
use mathlib.Core.Path.{sym, ◌∙◌, subst}
use Rattle.frame.specs.Doc.{doc_of}
use Rattle.marks.specs.Marks.{NamesAt}
use Rattle.text.specs.Text.{bytes}
use Rattle.phrase.proofs.Laws.{put_as, put-length}
use Rattle.sentence.proofs.Sentences.{labels-node, labels-other}
use Rattle.sentence.proofs.put_labels.Goals as goal

pub put_colons-requires-clause-names_at : goal.put_colons-requires-clause-names_at
put_colons-requires-clause-names_at c =
    subst (λ (v : ℕ). NamesAt (doc_of c.args.s.now)
    (c.args.i + 3) (v / 2))
    (sym c.value-value.ensures)
    (c.requires.labels_at.node
    (sym c.kind.ensures ∙ c.if-kind-eq-NODE.true))

pub returns-then-kind-eq-NODE : goal.returns-then-kind-eq-NODE
unfolding bytes
returns-then-kind-eq-NODE c = (
  put_as (labels-node (doc_of c.args.s.now) c.args.i c.kind.result
      c.value-value.result
      c.requires.labels_at
      c.kind.ensures
      c.value-value.ensures
      c.if-kind-eq-NODE.true) c.put_colons.ensures.0,
  c.put_colons.ensures.1,
)

pub put_colons-requires-2-clause-names_at : goal.put_colons-requires-2-clause-names_at
put_colons-requires-2-clause-names_at c =
    subst (λ (v : ℕ). NamesAt (doc_of c.args.s.now)
    (c.args.i + 1) v)
    (sym c.value-value.ensures)
    (c.requires.labels_at.other
    (λ e. c.if-kind-eq-NODE.false (c.kind.ensures ∙ e)))

pub returns : goal.returns
unfolding bytes
returns c = (
  put_as (labels-other (doc_of c.args.s.now) c.args.i c.kind.result
      c.value-value.result
      c.requires.labels_at
      c.kind.ensures
      c.value-value.ensures
      c.if-kind-eq-NODE.false) c.put_colons-2.ensures.0,
  c.put_colons-2.ensures.1,
)
