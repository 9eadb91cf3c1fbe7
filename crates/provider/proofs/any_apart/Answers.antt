use native.Mathlib.Omega.{arith}
use mathlib.Core.Path.{refl}
use Rattle.frame.specs.Doc.{doc_of}
use Rattle.grammar.specs.Tree.{tree_of}
use Rattle.numbers.specs.Least.{texts_of}
use Rattle.provider.specs.Inner.{apart_marked}
use Rattle.register.proofs.Aparts.{apart-is-one}
use Rattle.provider.proofs.Tuples.{apart-stop, apart-hit, apart-on, apart-end}
use Rattle.provider.proofs.any_apart.Goals as goal

pub loop-k-init : goal.loop-k-init
loop-k-init c =
    refl

pub apart-j-requires-clause-registered : goal.apart-j-requires-clause-registered
apart-j-requires-clause-registered c =
    c.requires.registered

pub apart-j-requires-clause-k_le_tokens : goal.apart-j-requires-clause-k_le_tokens
apart-j-requires-clause-k_le_tokens c =
    omega (arith, c.loop-k-test.true)

pub returns-then-j-eq0 : goal.returns-then-j-eq0
returns-then-j-eq0 c =
    apart-stop _ _ c.requires.registered.schema _ _ c.apart-j.ensures (apart_marked (tree_of (doc_of c.args.d.now)) (texts_of c.args.d.now c.args.s.now) c.args.marks.now) _ c.loop-k.invariant c.if-j-eq0.true

pub is_apart-requires-clause-registered : goal.is_apart-requires-clause-registered
is_apart-requires-clause-registered c =
    let o = apart-is-one _ _ c.requires.registered.schema _ _ c.apart-j.ensures c.if-j-eq0.false in c.requires.registered

pub is_apart-requires-clause-sizes_in_bounds : goal.is_apart-requires-clause-sizes_in_bounds
is_apart-requires-clause-sizes_in_bounds c =
    let o = apart-is-one _ _ c.requires.registered.schema _ _ c.apart-j.ensures c.if-j-eq0.false in c.requires.sizes_in_bounds

pub is_apart-requires-clause-j_lt_tokens : goal.is_apart-requires-clause-j_lt_tokens
is_apart-requires-clause-j_lt_tokens c =
    let o = apart-is-one _ _ c.requires.registered.schema _ _ c.apart-j.ensures c.if-j-eq0.false in o.0

pub is_apart-requires-clause-j_value : goal.is_apart-requires-clause-j_value
is_apart-requires-clause-j_value c =
    let o = apart-is-one _ _ c.requires.registered.schema _ _ c.apart-j.ensures c.if-j-eq0.false in o.1

pub returns-then-is_apart : goal.returns-then-is_apart
returns-then-is_apart c =
    apart-hit _ _ c.requires.registered.schema _ _ c.apart-j.ensures (apart_marked (tree_of (doc_of c.args.d.now)) (texts_of c.args.d.now c.args.s.now) c.args.marks.now) _ c.loop-k.invariant c.if-j-eq0.false _ c.is_apart.ensures c.if-is_apart.true

pub loop-k-preserved : goal.loop-k-preserved
loop-k-preserved c =
    apart-on _ _ c.requires.registered.schema _ _ c.apart-j.ensures (apart_marked (tree_of (doc_of c.args.d.now)) (texts_of c.args.d.now c.args.s.now) c.args.marks.now) _ c.loop-k.invariant c.if-j-eq0.false _ c.is_apart.ensures c.if-is_apart.false

pub returns : goal.returns
returns c =
    apart-end _ _ c.requires.registered.schema c.loop-k.k (apart_marked (tree_of (doc_of c.args.d.now)) (texts_of c.args.d.now c.args.s.now) c.args.marks.now) _ c.loop-k.invariant (omega (arith, c.loop-k-test.false))
