use Rattle.text.specs.Folded.{same_folded}
use Rattle.frame.specs.Doc.{doc_of}
use Rattle.grammar.specs.Tree.{tree_of}
use Rattle.schema.specs.Declarations.{name_below}
use Rattle.register.proofs.Sought.{sought-named, found-low}
use Rattle.numbers.specs.Least.{texts_of, text_at}
use native.Mathlib.Omega.{arith}
use Rattle.register.proofs.AnyCase.{lone-more, unmarked, fold-inside, fold_more}
use mathlib.Core.Bool.{not}
use mathlib.Core.Path.{ap}
use Rattle.register.proofs.folding.fold_name.Goals as goal

pub returns-then-not-marks-place : goal.returns-then-not-marks-place
returns-then-not-marks-place c =
    lone-more _ _ _ _ _ c.requires.folding c.requires.x_bound c.args.marks.now c.requires.marked (unmarked c.args.marks.now _ _ c.place.ensures (ap not c.if-not-marks-place.true))

pub function_of-found-requires-clause-declared : goal.function_of-found-requires-clause-declared
function_of-found-requires-clause-declared c =
    c.requires.folding.schema

pub function_of-found-requires-clause-sound : goal.function_of-found-requires-clause-sound
function_of-found-requires-clause-sound c =
    c.requires.folding.statement

pub function_of-found-requires-clause-functions_value : goal.function_of-found-requires-clause-functions_value
function_of-found-requires-clause-functions_value c =
    c.requires.functions_value

pub function_of-found-requires-clause-x_bound : goal.function_of-found-requires-clause-x_bound
function_of-found-requires-clause-x_bound c =
    c.requires.x_bound

pub entry-requires : goal.entry-requires
entry-requires c =
    found-low (λ i. same_folded (text_at (texts_of c.args.d.now c.args.s.now) c.args.x) (name_below (tree_of (doc_of c.args.d.now)) i)) c.args.d.now c.args.functions.now c.args.sizes c.requires.folding.schema (sought-named _ _ _ c.requires.folding.schema c.requires.folding.statement _ c.requires.functions_value) c.function_of-found.ensures

pub offset_bounds-register-at : goal.offset_bounds-register-at
offset_bounds-register-at c =
    omega (arith, fold-inside _ _ _ _ _ c.requires.folding c.requires.x_bound _ 0 c.entry_at-at.ensures, c)

pub bounds-register-at : goal.bounds-register-at
bounds-register-at c =
    fold-inside _ _ _ _ _ c.requires.folding c.requires.x_bound _ 0 c.entry_at-at.ensures

pub returns : goal.returns
returns c =
    fold_more _ _ _ _ _ c.requires.folding c.requires.x_bound _ _ c.entry_at-at.ensures c.args.marks.now c.requires.marked _ c.requires.functions_value _ c.place.ensures (ap not c.if-not-marks-place.false) c.function_of-found.ensures c.entry.ensures
