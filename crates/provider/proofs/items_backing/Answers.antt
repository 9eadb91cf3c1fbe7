use native.Mathlib.Omega.{arith}
use mathlib.Core.Path.{sym, ◌∙◌}
use lib.Dec.{eqb}
use Rattle.frame.specs.Doc.{doc_of}
use Rattle.grammar.specs.Tree.{tree_of}
use Rattle.grammar.proofs.Flat.{tree-kind}
use Rattle.provider.specs.Inner.{map_keys}
use Rattle.provider.proofs.Tuples.{either-or, seen_start, seen-backed, seen-on, seen_one, seen_none}
use Rattle.provider.proofs.items_backing.Goals as goal

pub loop-j-init : goal.loop-j-init
loop-j-init c =
    seen_start _ (map_keys (tree_of (doc_of c.args.s.now)) c.args.map)

pub is_backed-requires-clause-keyed : goal.is_backed-requires-clause-keyed
is_backed-requires-clause-keyed c =
    c.requires.keyed

pub is_backed-requires-clause-j_lt_tokens : goal.is_backed-requires-clause-j_lt_tokens
is_backed-requires-clause-j_lt_tokens c =
    omega (arith, c.requires.to_le_tokens)

pub returns-then-is_backed : goal.returns-then-is_backed
returns-then-is_backed c =
    seen-backed (tree_of (doc_of c.args.d.now)) (map_keys (tree_of (doc_of c.args.s.now)) c.args.map) _ c.args.to c.loop-j.seen _ c.loop-j.invariant _
    c.is_backed.ensures c.loop-j-test.true c.if-is_backed.true

pub kind-requires-clause-sound : goal.kind-requires-clause-sound
kind-requires-clause-sound c =
    c.requires.keyed.register.schema.sheet

pub kind-requires-clause-i_lt_tokens : goal.kind-requires-clause-i_lt_tokens
kind-requires-clause-i_lt_tokens c =
    omega (arith, c.requires.to_le_tokens)

pub loop-j-preserved : goal.loop-j-preserved
loop-j-preserved c =
    seen-on (tree_of (doc_of c.args.d.now)) (map_keys (tree_of (doc_of c.args.s.now)) c.args.map) _ c.args.to c.loop-j.seen _ c.loop-j.invariant _
    c.is_backed.ensures c.loop-j-test.true _ _ (c.kind.ensures ∙ sym (tree-kind _ _)) (either-or c.loop-j.seen (eqb c.kind.result 111)) c.if-is_backed.false

pub returns-then-seen : goal.returns-then-seen
returns-then-seen c =
    seen_one (tree_of (doc_of c.args.d.now)) (map_keys (tree_of (doc_of c.args.s.now)) c.args.map) _ _ _ _ c.loop-j.invariant c.loop-j-test.false c.if-seen.true

pub returns : goal.returns
returns c =
    seen_none (tree_of (doc_of c.args.d.now)) (map_keys (tree_of (doc_of c.args.s.now)) c.args.map) _ _ _ _ c.loop-j.invariant c.loop-j-test.false c.if-seen.false
