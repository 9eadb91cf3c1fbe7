use mathlib.Core.Path.{refl}
use native.Mathlib.Omega.{arith}
use Prim.Native.Nat.{◌+◌}
use Rattle.frame.specs.Doc.{doc_of}
use Rattle.grammar.specs.Tree.{tree_of}
use Rattle.provider.specs.Schema.{schema_of, procedure_of}
use Rattle.breach.specs.Breach.{item_at}
use Rattle.judge.proofs.Wrote.{wrote_none, wrote_as}
use Rattle.judge.proofs.OfItems.{procedure-name, unknown-call, wrong-call, right-call, value_read, procedure-spans}
use Rattle.judge.proofs.items.procedure_item.Goals as goal

pub procedure-requires-clause-name_at : goal.procedure-requires-clause-name_at
procedure-requires-clause-name_at c =
    procedure-name _ _ _ _ c.requires.lent c.requires.i_lt_tokens c.requires.i_value

pub put_at-requires-clause-i_value : goal.put_at-requires-clause-i_value
put_at-requires-clause-i_value c =
    let q = procedure-spans _ _ _
    _ c.requires.lent c.requires.i_lt_tokens c.requires.i_value in q.0

pub put_at-requires-clause-i_value_2 : goal.put_at-requires-clause-i_value_2
put_at-requires-clause-i_value_2 c =
    let q = procedure-spans _ _ _
    _ c.requires.lent c.requires.i_lt_tokens c.requires.i_value in q.1

pub put_at-requires-clause-count_lt_most_count : goal.put_at-requires-clause-count_lt_most_count
put_at-requires-clause-count_lt_most_count c =
    let q = procedure-spans _ _ _
    _ c.requires.lent c.requires.i_lt_tokens c.requires.i_value in omega (arith, c.requires.count_lt_half_count)

pub returns-in_default : goal.returns-in_default
returns-in_default c =
    let t = tree_of (doc_of c.args.s.now) in
    let g = procedure_of (schema_of (tree_of (doc_of c.args.d.now))) in
    wrote_as (unknown-call g _ (t.text (c.args.i + 3)) 0 (t.value c.args.i) (item_at t c.args.i 3008 0 0)
    (item_at t c.args.i 3007 0 0) refl
    c.procedure.ensures
    c.in_default.is) c.put_at.ensures

pub put_at-requires-then-is_bad_count-clause-i_value : goal.put_at-requires-then-is_bad_count-clause-i_value
put_at-requires-then-is_bad_count-clause-i_value c =
    let q = procedure-spans _ _ _ _ c.requires.lent c.requires.i_lt_tokens c.requires.i_value in q.0

pub put_at-requires-then-is_bad_count-clause-i_value_2 : goal.put_at-requires-then-is_bad_count-clause-i_value_2
put_at-requires-then-is_bad_count-clause-i_value_2 c =
    let q = procedure-spans _ _ _ _ c.requires.lent c.requires.i_lt_tokens c.requires.i_value in q.1

pub put_at-requires-then-is_bad_count-clause-count_lt_most_count : goal.put_at-requires-then-is_bad_count-clause-count_lt_most_count
put_at-requires-then-is_bad_count-clause-count_lt_most_count c =
    let q = procedure-spans _ _ _ _ c.requires.lent c.requires.i_lt_tokens c.requires.i_value in omega (arith, c.requires.count_lt_half_count)

pub returns-then-is_bad_count : goal.returns-then-is_bad_count
returns-then-is_bad_count c =
    let t = tree_of (doc_of c.args.s.now) in
    let g = procedure_of (schema_of (tree_of (doc_of c.args.d.now))) in
    wrote_as (wrong-call g _ (t.text (c.args.i + 3)) _ (t.value c.args.i) (item_at t c.args.i 3008 0 0)
    (item_at t c.args.i 3007 0 0) refl c.procedure.ensures _ _ c.in-Some.is (value_read (doc_of c.args.s.now) _ _ _ c.requires.i_value (λ h. omega arith)
    c.value.ensures)
    c.is_bad_count.ensures
    c.if-is_bad_count.true) c.put_at-then-is_bad_count.ensures

pub returns : goal.returns
returns c =
    let t = tree_of (doc_of c.args.s.now) in
    let g = procedure_of (schema_of (tree_of (doc_of c.args.d.now))) in
    wrote_as (right-call g _ (t.text (c.args.i + 3)) _ (t.value c.args.i) (item_at t c.args.i 3008 0 0)
    (item_at t c.args.i 3007 0 0) refl
    c.procedure.ensures _ _
    c.in-Some.is
    (value_read (doc_of c.args.s.now) _ _ _ c.requires.i_value (λ h. omega arith)
    c.value.ensures) c.is_bad_count.ensures c.if-is_bad_count.false) wrote_none
