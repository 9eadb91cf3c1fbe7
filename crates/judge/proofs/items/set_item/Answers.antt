use mathlib.Core.Path.{refl}
use native.Mathlib.Omega.{arith}
use Rattle.frame.specs.Doc.{doc_of}
use Rattle.grammar.specs.Tree.{tree_of}
use Rattle.provider.specs.Schema.{schema_of}
use Rattle.judge.proofs.Wrote.{wrote_none, wrote_as, wrote-alike}
use Rattle.judge.proofs.OfItems.{value_read, set-labelled, set_apart, set-fine}
use Rattle.judge.proofs.items.set_item.Goals as goal

pub are_apart-requires : goal.are_apart-requires
are_apart-requires c =
    set-labelled _ _ _ _ c.requires.lent c.requires.i_lt_tokens _ c.requires.i_value c.value.ensures

pub returns-then-are_apart : goal.returns-then-are_apart
returns-then-are_apart c =
    wrote_as (set_apart (tree_of (doc_of c.args.s.now)) (schema_of (tree_of (doc_of c.args.d.now))) c.args.i _
    (value_read (doc_of c.args.s.now) c.args.i 82 _ c.requires.i_value (λ h. omega arith)
    c.value.ensures)
    c.are_apart.ensures
    c.if-are_apart.true) (wrote-alike refl c.put_spanless.ensures)

pub returns : goal.returns
returns c =
    wrote_as (set-fine (tree_of (doc_of c.args.s.now)) (schema_of (tree_of (doc_of c.args.d.now))) c.args.i _
    (value_read (doc_of c.args.s.now) c.args.i 82 _ c.requires.i_value (λ h. omega arith)
    c.value.ensures) c.are_apart.ensures c.if-are_apart.false) wrote_none
