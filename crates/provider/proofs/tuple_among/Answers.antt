use native.Mathlib.Omega.{arith}
use mathlib.Core.Path.{◌∙◌}
use Rattle.frame.specs.Doc.{doc_of}
use Rattle.grammar.specs.Tree.{tree_of}
use Rattle.provider.specs.Inner.{map_keys}
use Rattle.provider.proofs.Tuples.{tuple-names, tuple-start, tuple-miss, tuple-on, tuple-end, mark-tells}
use mathlib.Core.Bool.{not}
use mathlib.Core.Path.{ap}
use Rattle.provider.proofs.tuple_among.Goals as goal

pub value-count-requires-clause-sound : goal.value-count-requires-clause-sound
value-count-requires-clause-sound c =
    c.requires.keyed.register.schema.sheet

pub value-count-requires-clause-i_lt_tokens : goal.value-count-requires-clause-i_lt_tokens
value-count-requires-clause-i_lt_tokens c =
    c.requires.j_lt_tokens

pub loop-i-init : goal.loop-i-init
loop-i-init c =
    tuple-start (doc_of c.args.d.now) _ _ (map_keys (tree_of (doc_of c.args.s.now)) c.args.map) c.requires.j_value c.value-count.ensures

pub overflow_add-j : goal.overflow_add-j
overflow_add-j c =
    omega (arith, c.requires.j_lt_tokens, c.requires.keyed.register.schema.sheet)

pub overflow_add-j-in-loop-i : goal.overflow_add-j-in-loop-i
overflow_add-j-in-loop-i c =
    omega (
      arith,
      (tuple-names _ _ _ _ c.requires.keyed.register.schema c.requires.j_lt_tokens c.requires.j_value c.value-count.ensures _ c.loop-i-test.true).inside,
      c.requires.keyed.register.schema.sheet,
    )

pub is_marked-requires-clause-registered : goal.is_marked-requires-clause-registered
is_marked-requires-clause-registered c =
    c.requires.keyed.register

pub is_marked-requires-clause-name_at : goal.is_marked-requires-clause-name_at
is_marked-requires-clause-name_at c =
    tuple-names _ _ _ _ c.requires.keyed.register.schema c.requires.j_lt_tokens c.requires.j_value c.value-count.ensures _ c.loop-i-test.true

pub is_marked-requires-clause-sizes_in_bounds : goal.is_marked-requires-clause-sizes_in_bounds
is_marked-requires-clause-sizes_in_bounds c =
    c.requires.keyed.room

pub returns-then-not-is_marked : goal.returns-then-not-is_marked
returns-then-not-is_marked c =
    let n = tuple-names _ _ _ _ c.requires.keyed.register.schema c.requires.j_lt_tokens c.requires.j_value c.value-count.ensures _ c.loop-i-test.true in
    tuple-miss (tree_of (doc_of c.args.d.now)) (map_keys (tree_of (doc_of c.args.s.now)) c.args.map) _ _ _ _ c.loop-i.invariant _
    (c.is_marked.ensures ∙ mark-tells _ _ _ _ c.requires.keyed.register _ _ c.requires.keyed.marks _ n)
    c.loop-i-test.true (ap not c.if-not-is_marked.true)

pub loop-i-preserved : goal.loop-i-preserved
loop-i-preserved c =
    let n = tuple-names _ _ _ _ c.requires.keyed.register.schema c.requires.j_lt_tokens c.requires.j_value c.value-count.ensures _ c.loop-i-test.true in
    tuple-on (tree_of (doc_of c.args.d.now)) (map_keys (tree_of (doc_of c.args.s.now)) c.args.map) _ _ _ _ c.loop-i.invariant _
    (c.is_marked.ensures ∙ mark-tells _ _ _ _ c.requires.keyed.register _ _ c.requires.keyed.marks _ n)
    c.loop-i-test.true (ap not c.if-not-is_marked.false)

pub returns : goal.returns
returns c =
    tuple-end (tree_of (doc_of c.args.d.now)) (map_keys (tree_of (doc_of c.args.s.now)) c.args.map) _ _ _ _ c.loop-i.invariant c.loop-i-test.false
