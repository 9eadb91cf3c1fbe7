use native.Mathlib.Omega.{arith}
use Rattle.frame.specs.Doc.{doc_of}
use Rattle.grammar.specs.Tree.{tree_of}
use Rattle.provider.specs.Schema.{schema_of}
use Rattle.judge.proofs.Wrote.{wrote_none, wrote_as}
use Rattle.judge.proofs.OfItems.{element-value, element-spans, element-labelled, node-unmade, node-apart, node-fine}
use Rattle.judge.proofs.items.node_item.Goals as goal

pub returns-then-not-is_made : goal.returns-then-not-is_made
returns-then-not-is_made c =
    wrote_as (node-unmade (doc_of c.args.s.now) (schema_of (tree_of (doc_of c.args.d.now))) c.args.i c.args.held _
    c.requires.held_value c.kind.ensures c.is_made.ensures
    c.if-not-is_made.true) wrote_none

pub are_apart-requires : goal.are_apart-requires
are_apart-requires c =
    element-labelled _ _ _ _ c.requires.lent c.requires.i_lt_tokens _ c.requires.i_value c.value.ensures

pub put_at-requires-clause-i_value : goal.put_at-requires-clause-i_value
put_at-requires-clause-i_value c =
    let q = element-spans _ _ _ _ c.requires.lent c.requires.i_lt_tokens c.requires.i_value in q.0

pub put_at-requires-clause-i_value_2 : goal.put_at-requires-clause-i_value_2
put_at-requires-clause-i_value_2 c =
    let q = element-spans _ _ _ _ c.requires.lent c.requires.i_lt_tokens c.requires.i_value in q.1

pub put_at-requires-clause-count_lt_most_count : goal.put_at-requires-clause-count_lt_most_count
put_at-requires-clause-count_lt_most_count c =
    let q = element-spans _ _ _ _ c.requires.lent c.requires.i_lt_tokens c.requires.i_value in omega (arith, c.requires.count_lt_half_count)

pub returns-then-are_apart : goal.returns-then-are_apart
returns-then-are_apart c =
    wrote_as (node-apart (doc_of c.args.s.now) (schema_of (tree_of (doc_of c.args.d.now))) c.args.i c.args.held _
    c.requires.held_value c.kind.ensures c.is_made.ensures _
    (element-value (doc_of c.args.s.now) c.args.i _ c.requires.i_value
    c.value.ensures)
    c.are_apart.ensures
    c.if-not-is_made.false
    c.if-are_apart.true) c.put_at.ensures

pub returns : goal.returns
returns c =
    wrote_as (node-fine (doc_of c.args.s.now) (schema_of (tree_of (doc_of c.args.d.now))) c.args.i c.args.held _
    c.requires.held_value c.kind.ensures
    c.is_made.ensures _
    (element-value (doc_of c.args.s.now) c.args.i _ c.requires.i_value c.value.ensures)
    c.are_apart.ensures c.if-not-is_made.false c.if-are_apart.false)
    wrote_none
