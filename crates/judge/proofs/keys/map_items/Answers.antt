use native.Mathlib.Omega.{arith}
use mathlib.Core.Path.{◌≡◌, sym, ap, ◌∙◌}
use Prim.Native.Nat.{ℕ, ◌+◌, ◌*◌}
use native.Mathlib.Numerals.{add-one}
use Rattle.lists.proofs.Laws.{over_none}
use Rattle.frame.specs.Doc.{doc_of}
use Rattle.grammar.specs.Tree.{child}
use Rattle.grammar.proofs.Places.{past-none, past-ge}
use Rattle.breach.specs.Breach.{statement_in, schema_in}
use Rattle.breach.proofs.Items.{lone-most, key-lone}
use Rattle.judge.proofs.Keyed.{keys-all, key-name, key-value, value_there, key-next, keys_on}
use Rattle.judge.proofs.Wrote.{wrote_none, wrote_as, wrote-join, wrote-length}
use Rattle.judge.proofs.keys.map_items.Goals as goal

pub loop-k-init : goal.loop-k-init
loop-k-init c =
    (omega arith, (add-one _ ∙ sym (past-none (statement_in c.args.s.now) _), (omega arith, wrote_as (sym (over_none _ 0 0 (omega arith))) wrote_none)))

pub key_item-tallied-requires-clause-lent : goal.key_item-tallied-requires-clause-lent
key_item-tallied-requires-clause-lent c =
    let e = key-value (doc_of c.args.s.now) c.requires.lent.read _ c.requires.map_of.inside c.requires.map_of.kind c.loop-k.k (omega (arith, c.loop-k-test.true, c.value-pairs.ensures)) c.loop-k.at c.loop-k.invariant.1.0 in c.requires.lent

pub key_item-tallied-requires-clause-element_lt_tokens : goal.key_item-tallied-requires-clause-element_lt_tokens
key_item-tallied-requires-clause-element_lt_tokens c =
    let e = key-value (doc_of c.args.s.now) c.requires.lent.read _ c.requires.map_of.inside c.requires.map_of.kind c.loop-k.k (omega (arith, c.loop-k-test.true, c.value-pairs.ensures)) c.loop-k.at c.loop-k.invariant.1.0 in c.requires.i_lt_tokens

pub key_item-tallied-requires-clause-element_value : goal.key_item-tallied-requires-clause-element_value
key_item-tallied-requires-clause-element_value c =
    let e = key-value (doc_of c.args.s.now) c.requires.lent.read _ c.requires.map_of.inside c.requires.map_of.kind c.loop-k.k (omega (arith, c.loop-k-test.true, c.value-pairs.ensures)) c.loop-k.at c.loop-k.invariant.1.0 in c.requires.i_value

pub key_item-tallied-requires-clause-name_at : goal.key_item-tallied-requires-clause-name_at
key_item-tallied-requires-clause-name_at c =
    let e = key-value (doc_of c.args.s.now) c.requires.lent.read _ c.requires.map_of.inside c.requires.map_of.kind c.loop-k.k (omega (arith, c.loop-k-test.true, c.value-pairs.ensures)) c.loop-k.at c.loop-k.invariant.1.0 in key-name (doc_of c.args.s.now) c.requires.lent.read _ c.requires.map_of.inside c.requires.map_of.kind c.loop-k.k (omega (arith, c.loop-k-test.true, c.value-pairs.ensures)) c.loop-k.at c.loop-k.invariant.1.0

pub key_item-tallied-requires-clause-at_value : goal.key_item-tallied-requires-clause-at_value
key_item-tallied-requires-clause-at_value c =
    let e = key-value (doc_of c.args.s.now) c.requires.lent.read _ c.requires.map_of.inside c.requires.map_of.kind c.loop-k.k (omega (arith, c.loop-k-test.true, c.value-pairs.ensures)) c.loop-k.at c.loop-k.invariant.1.0 in c.loop-k.invariant.1.0 ∙ ap (λ (j : ℕ). child (statement_in c.args.s.now) j (2 * c.loop-k.k)) c.requires.map_of.is

pub key_item-tallied-requires-clause-at_value_2 : goal.key_item-tallied-requires-clause-at_value_2
key_item-tallied-requires-clause-at_value_2 c =
    let e = key-value (doc_of c.args.s.now) c.requires.lent.read _ c.requires.map_of.inside c.requires.map_of.kind c.loop-k.k (omega (arith, c.loop-k-test.true, c.value-pairs.ensures)) c.loop-k.at c.loop-k.invariant.1.0 in e ∙ ap (λ (j : ℕ). child (statement_in c.args.s.now) j (2 * c.loop-k.k + 1)) c.requires.map_of.is

pub key_item-tallied-requires-clause-count_lt_most_count : goal.key_item-tallied-requires-clause-count_lt_most_count
key_item-tallied-requires-clause-count_lt_most_count c =
    let e = key-value (doc_of c.args.s.now) c.requires.lent.read _ c.requires.map_of.inside c.requires.map_of.kind c.loop-k.k (omega (arith, c.loop-k-test.true, c.value-pairs.ensures)) c.loop-k.at c.loop-k.invariant.1.0 in omega (arith, c.loop-k.invariant.1.1.0, c.requires.count_lt_half_count, value_there (doc_of c.args.s.now) c.requires.lent.read _ c.requires.map_of.inside c.requires.map_of.kind c.loop-k.k (omega (arith, c.loop-k-test.true, c.value-pairs.ensures)) c.loop-k.at c.loop-k.invariant.1.0, c.requires.lent.sheet.tokens, c.requires.lent.sheet.few_tokens)

pub key_item-tallied-requires-clause-properties_of : goal.key_item-tallied-requires-clause-properties_of
key_item-tallied-requires-clause-properties_of c =
    let e = key-value (doc_of c.args.s.now) c.requires.lent.read _ c.requires.map_of.inside c.requires.map_of.kind c.loop-k.k (omega (arith, c.loop-k-test.true, c.value-pairs.ensures)) c.loop-k.at c.loop-k.invariant.1.0 in c.requires.properties_of

pub overflow_add-at-in-loop-k : goal.overflow_add-at-in-loop-k
overflow_add-at-in-loop-k c =
    omega (arith, value_there (doc_of c.args.s.now) c.requires.lent.read _ c.requires.map_of.inside c.requires.map_of.kind c.loop-k.k (omega (arith, c.loop-k-test.true, c.value-pairs.ensures)) c.loop-k.at c.loop-k.invariant.1.0, c.requires.lent.sheet.tokens, c.requires.lent.sheet.few_tokens)

pub skip-at-requires-clause-i_lt_tokens : goal.skip-at-requires-clause-i_lt_tokens
skip-at-requires-clause-i_lt_tokens c =
    omega (arith, value_there (doc_of c.args.s.now) c.requires.lent.read _ c.requires.map_of.inside c.requires.map_of.kind c.loop-k.k (omega (arith, c.loop-k-test.true, c.value-pairs.ensures)) c.loop-k.at c.loop-k.invariant.1.0, c.requires.lent.sheet.tokens)

pub loop-k-preserved : goal.loop-k-preserved
loop-k-preserved c =
    (omega (arith, c.loop-k-test.true), (key-next (doc_of c.args.s.now) c.requires.lent.read _ c.requires.map_of.inside c.requires.map_of.kind c.loop-k.k (omega (arith, c.loop-k-test.true, c.value-pairs.ensures)) c.loop-k.at c.loop-k.invariant.1.0 _ c.skip-at.ensures, (omega (arith, c.loop-k.invariant.1.1.0, c.key_item-tallied.ensures.count, c.skip-at.ensures, past-ge (statement_in c.args.s.now) 1 (c.loop-k.at + 1), lone-most (key-lone (statement_in c.args.s.now) (schema_in c.args.d.now) c.args.i c.loop-k.k)), wrote_as (keys_on _ _) (wrote-join c.loop-k.invariant.1.1.1 c.key_item-tallied.ensures))))

pub shape_of-list : goal.shape_of-list
shape_of-list c =
    wrote-length c.loop-k.invariant.1.1.1

pub returns : goal.returns
returns c =
    let k : c.loop-k.k ≡ c.value-pairs.result = omega (arith, c.loop-k.invariant.0, c.loop-k-test.false) in wrote_as (keys-all (doc_of c.args.s.now) c.args.i _ c.loop-k.k _ c.requires.map_of (k ∙ c.value-pairs.ensures)) c.loop-k.invariant.1.1.1
