use mathlib.Core.Path.{sym, ◌∙◌}
use native.Mathlib.Omega.{arith}
use Rattle.frame.specs.Doc.{doc_of}
use Rattle.grammar.specs.Tree.{tree_of}
use Rattle.grammar.proofs.Flat.{tree-kind}
use Rattle.of_kind.proofs.Counts.{few-of, count_turn, count-end, not-counted, one-counted}
use Rattle.of_kind.proofs.count_of.Goals as goal
use Rattle.of_kind.proofs.count_of.Goals.{then-kind, else-kind}

pub loop-j-init : goal.loop-j-init
loop-j-init c =
    (omega arith, omega arith)

pub kind-requires-clause-sound : goal.kind-requires-clause-sound
kind-requires-clause-sound c =
    c.requires.sound

pub kind-requires-clause-i_lt_tokens : goal.kind-requires-clause-i_lt_tokens
kind-requires-clause-i_lt_tokens c =
    omega (arith, c.requires.to_le_tokens, c.loop-j-test.true)

pub overflow_add-many : goal.overflow_add-many
overflow_add-many c =
    omega (
      arith,
      c.requires.sound,
      c.requires.to_le_tokens,
      c.loop-j.invariant.0,
      few-of (tree_of (doc_of c.args.s.now)) c.args.kind c.args.from c.args.to,
    )

pub loop-j-preserved : goal.loop-j-preserved
loop-j-preserved c =
    let same = c.kind.ensures ∙ sym (tree-kind (doc_of c.args.s.now) _) in
    elim c.if-kind.branch [
      | then-kind w ↦ (
        count_turn (tree_of (doc_of c.args.s.now)) _ _ _ _ _ c.loop-j.invariant.0 _ _ same
            (w.many-is ∙ one-counted _ _ _ w.if-kind.true) c.loop-j-test.true,
        omega (arith, c.loop-j.invariant.1),
      )
      | else-kind w ↦ (
        count_turn (tree_of (doc_of c.args.s.now)) _ _ _ _ _ c.loop-j.invariant.0 _ _ same
            (w.many-is ∙ not-counted _ _ _ w.if-kind.false) c.loop-j-test.true,
        omega (arith, c.loop-j.invariant.1),
      )
    ]

pub returns : goal.returns
returns c =
    count-end (tree_of (doc_of c.args.s.now))
    c.args.kind _ _ _ _ c.loop-j.invariant.0 c.loop-j-test.false
