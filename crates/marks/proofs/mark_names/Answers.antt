use native.Mathlib.Omega.{arith}
use mathlib.Core.Path.{refl}
use Rattle.frame.specs.Doc.{doc_of}
use Rattle.grammar.specs.Tree.{tree_of}
use Rattle.numbers.specs.Least.{texts_of}
use Rattle.marks.proofs.Laws.{marks-start, marks-on, marks-end}
use Rattle.marks.proofs.mark_names.Goals as goal

pub loop-i-init : goal.loop-i-init
loop-i-init c =
    (marks-start (texts_of c.args.d.now c.args.s.now) (tree_of (doc_of c.args.s.now)) _ _ _, refl)

pub overflow_add-at : goal.overflow_add-at
overflow_add-at c =
    omega (arith, (c.requires.names_at c.loop-i.i c.loop-i-test.true).inside, c.requires.registered.statement.tokens, c.requires.registered.statement)

pub mark-requires-clause-registered : goal.mark-requires-clause-registered
mark-requires-clause-registered c =
    c.requires.registered

pub mark-requires-clause-name_at : goal.mark-requires-clause-name_at
mark-requires-clause-name_at c =
    c.requires.names_at c.loop-i.i c.loop-i-test.true

pub mark-requires-clause-sizes_in_bounds : goal.mark-requires-clause-sizes_in_bounds
mark-requires-clause-sizes_in_bounds c =
    omega (arith, c.requires.sizes_in_bounds, c.loop-i.invariant.1)

pub loop-i-preserved : goal.loop-i-preserved
loop-i-preserved c =
    (marks-on (texts_of c.args.d.now c.args.s.now) (tree_of (doc_of c.args.s.now)) _ _ _ _ _ c.loop-i.invariant.0 _ c.loop-i-test.true c.mark.ensures.marks_after, omega (arith, c.mark.auto, c.loop-i.invariant.1))

pub shape_of-marks : goal.shape_of-marks
shape_of-marks c =
    c.loop-i.invariant.1

pub returns : goal.returns
returns c =
    marks-end (texts_of c.args.d.now c.args.s.now) (tree_of (doc_of c.args.s.now)) _ _ _ _ _ c.loop-i.invariant.0 c.loop-i-test.false
