use native.Mathlib.Omega.{arith}
use mathlib.Core.Path.{◌≡◌, sym, ap}
use Prim.Native.Nat.{ℕ, ◌+◌, ◌/◌, ◌≤◌}
use Rattle.lists.specs.Lists.{over}
use Rattle.lists.proofs.Laws.{over_none}
use Rattle.frame.specs.Doc.{doc_of, value_of}
use Rattle.grammar.specs.Tree.{tree_of}
use Rattle.provider.specs.Schema.{schema_of}
use Rattle.breach.specs.Listing.{name_item}
use Rattle.breach.proofs.Items.{lone-most, name-lone}
use Rattle.judge.proofs.Wrote.{wrote_none, wrote-join, wrote_as, wrote-length}
use Rattle.judge.proofs.OfItems.{element-name, element-value, over-snoc}
use Rattle.judge.proofs.items.name_items.Goals as goal

pub loop-k-init : goal.loop-k-init
loop-k-init c = (
  omega arith,
  omega arith,
  wrote_as (sym (over_none (name_item (tree_of (doc_of c.args.s.now)) (schema_of (tree_of
      (doc_of c.args.d.now))) c.args.i) 0 0 (omega arith))) wrote_none,
)

pub name_item-tallied-requires-clause-lent : goal.name_item-tallied-requires-clause-lent
name_item-tallied-requires-clause-lent c =
    let b : c.loop-k.k + 1 ≤ value_of (doc_of c.args.s.now) c.args.i / 2 = omega
    (arith, c.loop-k-test.true, c.value-many.ensures) in let m = element-name _ _ _ _ c.requires.lent c.requires.i_lt_tokens c.loop-k.k c.requires.i_value (omega arith) in c.requires.lent

pub name_item-tallied-requires-clause-i_lt_tokens : goal.name_item-tallied-requires-clause-i_lt_tokens
name_item-tallied-requires-clause-i_lt_tokens c =
    let b : c.loop-k.k + 1 ≤ value_of (doc_of c.args.s.now) c.args.i / 2 = omega
    (arith, c.loop-k-test.true, c.value-many.ensures) in let m = element-name _ _ _ _ c.requires.lent c.requires.i_lt_tokens c.loop-k.k c.requires.i_value (omega arith) in c.requires.i_lt_tokens

pub name_item-tallied-requires-clause-i_value : goal.name_item-tallied-requires-clause-i_value
name_item-tallied-requires-clause-i_value c =
    let b : c.loop-k.k + 1 ≤ value_of (doc_of c.args.s.now) c.args.i / 2 = omega
    (arith, c.loop-k-test.true, c.value-many.ensures) in let m = element-name _ _ _ _ c.requires.lent c.requires.i_lt_tokens c.loop-k.k c.requires.i_value (omega arith) in c.requires.i_value

pub name_item-tallied-requires-clause-k_bound : goal.name_item-tallied-requires-clause-k_bound
name_item-tallied-requires-clause-k_bound c =
    let b : c.loop-k.k + 1 ≤ value_of (doc_of c.args.s.now) c.args.i / 2 = omega
    (arith, c.loop-k-test.true, c.value-many.ensures) in let m = element-name _ _ _ _ c.requires.lent c.requires.i_lt_tokens c.loop-k.k c.requires.i_value (omega arith) in omega arith

pub name_item-tallied-requires-clause-count_lt_most_count : goal.name_item-tallied-requires-clause-count_lt_most_count
name_item-tallied-requires-clause-count_lt_most_count c =
    let b : c.loop-k.k + 1 ≤ value_of (doc_of c.args.s.now) c.args.i / 2 = omega
    (arith, c.loop-k-test.true, c.value-many.ensures) in let m = element-name _ _ _ _ c.requires.lent c.requires.i_lt_tokens c.loop-k.k c.requires.i_value (omega arith) in omega (
      arith,
      c.loop-k.invariant.1,
      c.requires.count_lt_half_count,
      m.inside,
      c.requires.lent.sheet.tokens,
      c.requires.lent.sheet.few_tokens,
    )

pub loop-k-preserved : goal.loop-k-preserved
loop-k-preserved c =
    let t = tree_of (doc_of c.args.s.now) in
    let u = schema_of (tree_of (doc_of c.args.d.now)) in (
      omega (arith, c.loop-k-test.true),
      omega
          (arith, c.name_item-tallied.ensures.count, lone-most (name-lone t u c.args.i c.loop-k.k), c.loop-k.invariant.1),
      wrote_as
          (over-snoc (name_item t u c.args.i) c.loop-k.k) (wrote-join c.loop-k.invariant.2 c.name_item-tallied.ensures),
    )

pub shape_of-list : goal.shape_of-list
shape_of-list c =
    wrote-length c.loop-k.invariant.2

pub returns : goal.returns
returns c =
    let t = tree_of (doc_of c.args.s.now) in
    let u = schema_of (tree_of (doc_of c.args.d.now)) in
    let v = element-value (doc_of c.args.s.now) c.args.i _
    c.requires.i_value c.value-many.ensures in
    let e : c.loop-k.k ≡ t.value c.args.i / 2 = omega (arith, c.loop-k-test.false, c.loop-k.invariant.0, v) in
    wrote_as (ap (λ (z : ℕ). over (name_item t u c.args.i) 0 z) e) c.loop-k.invariant.2
