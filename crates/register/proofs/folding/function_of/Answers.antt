use Rattle.register.proofs.Sought.{sought-named, sought-rises}
use native.Mathlib.Omega.{arith}
use Rattle.frame.specs.Doc.{doc_of}
use Rattle.grammar.specs.Tree.{tree_of}
use Rattle.numbers.proofs.Texts.{text-first, text-second}
use Rattle.register.proofs.AnyCase.{found-by}
use Rattle.register.proofs.folding.function_of.Goals as goal

pub name-first-requires-clause-sound : goal.name-first-requires-clause-sound
name-first-requires-clause-sound c =
    c.requires.declared.sheet

pub name-first-requires-clause-k_lt_names : goal.name-first-requires-clause-k_lt_names
name-first-requires-clause-k_lt_names c =
    c.if-x-sizes.true

pub find-requires-clause-sound : goal.find-requires-clause-sound
find-requires-clause-sound c =
    c.requires.declared.sheet

pub find-requires-clause-all_named : goal.find-requires-clause-all_named
find-requires-clause-all_named c =
    sought-named _ _ _ c.requires.declared c.requires.sound _ c.requires.functions_value

pub find-requires-clause-rises : goal.find-requires-clause-rises
find-requires-clause-rises c =
    sought-rises _ _ _ c.requires.declared c.requires.sound _ c.requires.functions_value

pub returns-then-x-sizes : goal.returns-then-x-sizes
returns-then-x-sizes c =
    found-by (tree_of (doc_of c.args.d.now)) c.args.functions.now _ _ c.find.ensures (text-first _ _ _ c.requires.declared.sheet c.requires.sound _ _ c.if-x-sizes.true c.name-first.ensures)

pub name-second-requires-clause-sound : goal.name-second-requires-clause-sound
name-second-requires-clause-sound c =
    c.requires.sound

pub name-second-requires-clause-k_lt_names : goal.name-second-requires-clause-k_lt_names
name-second-requires-clause-k_lt_names c =
    omega (arith, c.requires.x_bound, c.if-x-sizes.false)

pub find-requires-2-clause-sound : goal.find-requires-2-clause-sound
find-requires-2-clause-sound c =
    c.requires.declared.sheet

pub find-requires-2-clause-all_named : goal.find-requires-2-clause-all_named
find-requires-2-clause-all_named c =
    sought-named _ _ _ c.requires.declared c.requires.sound _ c.requires.functions_value

pub find-requires-2-clause-rises : goal.find-requires-2-clause-rises
find-requires-2-clause-rises c =
    sought-rises _ _ _ c.requires.declared c.requires.sound _ c.requires.functions_value

pub returns : goal.returns
returns c =
    found-by (tree_of (doc_of c.args.d.now)) c.args.functions.now _ _ c.find-2.ensures (text-second _ _ _ c.requires.declared.sheet c.requires.sound _ _ c.if-x-sizes.false c.name-second.ensures)
