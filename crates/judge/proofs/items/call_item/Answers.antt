use mathlib.Core.Path.{refl}
use native.Mathlib.Omega.{arith}
use Prim.Native.Nat.{◌+◌}
use Rattle.frame.specs.Doc.{doc_of}
use Rattle.grammar.specs.Tree.{tree_of}
use Rattle.provider.specs.Schema.{schema_of, function_of}
use Rattle.breach.specs.Breach.{spanless}
use Rattle.judge.proofs.Wrote.{wrote_none, wrote_as, wrote-alike}
use Rattle.judge.proofs.OfItems.{call-name, unknown-call, wrong-call, right-call, value_read}
use Rattle.judge.proofs.items.call_item.Goals as goal

pub function-requires-clause-name_at : goal.function-requires-clause-name_at
function-requires-clause-name_at c =
    call-name _ _ _ _ c.requires.lent c.requires.i_lt_tokens c.requires.i_value

pub returns-in_default : goal.returns-in_default
returns-in_default c =
    let t = tree_of (doc_of c.args.s.now) in
    let g = function_of (schema_of (tree_of (doc_of c.args.d.now))) in
    wrote_as (unknown-call g _ (t.text (c.args.i + 1)) 0 (t.value c.args.i) (spanless t c.args.i 3006 0)
    (spanless t c.args.i 3007 0) refl
    c.function.ensures
    c.in_default.is) (wrote-alike refl c.put_spanless.ensures)

pub returns-then-is_bad_count : goal.returns-then-is_bad_count
returns-then-is_bad_count c =
    let t = tree_of (doc_of c.args.s.now) in
    let g = function_of (schema_of (tree_of (doc_of c.args.d.now))) in
    wrote_as (wrong-call g _ (t.text (c.args.i + 1)) _ (t.value c.args.i) (spanless t c.args.i 3006 0)
    (spanless t c.args.i 3007 0) refl c.function.ensures _ _ c.in-Some.is (value_read (doc_of c.args.s.now) _ _ _ c.requires.i_value (λ h. omega arith)
    c.value.ensures)
    c.is_bad_count.ensures
    c.if-is_bad_count.true) (wrote-alike refl c.put_spanless-then-is_bad_count.ensures)

pub returns : goal.returns
returns c =
    let t = tree_of (doc_of c.args.s.now) in
    let g = function_of (schema_of (tree_of (doc_of c.args.d.now))) in
    wrote_as (right-call g _ (t.text (c.args.i + 1)) _ (t.value c.args.i) (spanless t c.args.i 3006 0)
    (spanless t c.args.i 3007 0) refl
    c.function.ensures _ _
    c.in-Some.is
    (value_read (doc_of c.args.s.now) _ _ _ c.requires.i_value (λ h. omega arith)
    c.value.ensures) c.is_bad_count.ensures c.if-is_bad_count.false) wrote_none
