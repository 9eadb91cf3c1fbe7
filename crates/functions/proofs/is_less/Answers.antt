use native.Mathlib.Omega.{arith}
use Rattle.frame.specs.Doc.{doc_of}
use Rattle.grammar.specs.Tree.{tree_of}
use Rattle.functions.proofs.Finding.{less-read}
use Rattle.functions.proofs.is_less.Goals as goal

pub overflow_add-i : goal.overflow_add-i
overflow_add-i c =
    omega (arith, c.requires.name_at.inside, c.requires.sound.tokens, c.requires.sound.few_tokens)

pub returns : goal.returns
returns c =
    less-read (tree_of (doc_of c.args.d.now)) c.args.i c.args.name.now c.text_of.ensures
    c.compare_folded.ensures c.is_lt.ensures
