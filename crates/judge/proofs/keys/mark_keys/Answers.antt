use native.Mathlib.Omega.{arith}
use mathlib.Core.Path.{refl, sym, ◌∙◌}
use native.Mathlib.Numerals.{add-one}
use Rattle.frame.specs.Doc.{doc_of}
use Rattle.grammar.specs.Tree.{tree_of}
use Rattle.grammar.proofs.Places.{past-none}
use Rattle.judge.proofs.Keyed.{key-name, value_there, key-next}
use Rattle.judge.proofs.Tupled.{keys-start, keys-more, keys-end}
use Rattle.judge.proofs.keys.mark_keys.Goals as goal

pub loop-k-init : goal.loop-k-init
loop-k-init c =
    (omega arith, (add-one _ ∙ sym (past-none (tree_of (doc_of c.args.s.now)) _), (refl, keys-start _ _ _ _)))

pub mark-requires-clause-name_at : goal.mark-requires-clause-name_at
mark-requires-clause-name_at c =
    key-name (doc_of c.args.s.now) c.requires.lent.read c.args.map (omega (arith, c.requires.lent.sheet.tokens, c.requires.map_lt_tokens)) c.requires.map_value c.loop-k.k (omega (arith, c.loop-k-test.true, c.value-pairs.ensures)) c.loop-k.at c.loop-k.invariant.1.0

pub overflow_add-at-in-loop-k : goal.overflow_add-at-in-loop-k
overflow_add-at-in-loop-k c =
    omega (arith, value_there (doc_of c.args.s.now) c.requires.lent.read c.args.map (omega (arith, c.requires.lent.sheet.tokens, c.requires.map_lt_tokens)) c.requires.map_value c.loop-k.k (omega (arith, c.loop-k-test.true, c.value-pairs.ensures)) c.loop-k.at c.loop-k.invariant.1.0, c.requires.lent.sheet.tokens, c.requires.lent.sheet.few_tokens)

pub skip-at-requires-clause-i_lt_tokens : goal.skip-at-requires-clause-i_lt_tokens
skip-at-requires-clause-i_lt_tokens c =
    omega (arith, value_there (doc_of c.args.s.now) c.requires.lent.read c.args.map (omega (arith, c.requires.lent.sheet.tokens, c.requires.map_lt_tokens)) c.requires.map_value c.loop-k.k (omega (arith, c.loop-k-test.true, c.value-pairs.ensures)) c.loop-k.at c.loop-k.invariant.1.0, c.requires.lent.sheet.tokens)

pub loop-k-preserved : goal.loop-k-preserved
loop-k-preserved c =
    (omega (arith, c.loop-k-test.true), (key-next (doc_of c.args.s.now) c.requires.lent.read c.args.map (omega (arith, c.requires.lent.sheet.tokens, c.requires.map_lt_tokens)) c.requires.map_value c.loop-k.k (omega (arith, c.loop-k-test.true, c.value-pairs.ensures)) c.loop-k.at c.loop-k.invariant.1.0 _ c.skip-at.ensures, (c.mark.auto.marks ∙ c.loop-k.invariant.1.1.0, keys-more _ _ _ _ _ _ _ _ c.loop-k.invariant.1.0 c.loop-k.invariant.1.1.1 c.mark.ensures.marks_after)))

pub returns : goal.returns
returns c =
    keys-end _ _ _ _ _ _ _ c.loop-k.invariant.0 c.loop-k-test.false c.value-pairs.ensures c.requires.map_value c.loop-k.invariant.1.1.1
