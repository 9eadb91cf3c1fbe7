use mathlib.Core.Path.{◌∙◌}
use Rattle.frame.specs.Doc.{doc_of}
use Rattle.grammar.specs.Tree.{tree_of}
use Rattle.functions.proofs.Finding.{find_none, find_one}
use Rattle.functions.proofs.find.Goals as goal

pub returns-in_err-i : goal.returns-in_err-i
returns-in_err-i c =
    c.from_residual.ensures ∙ find_none (tree_of (doc_of c.args.d.now)) c.args.name.now _ _ c.lower_bound-at.ensures
    c.in_err-i.ensures.lookup.3

pub returns : goal.returns
returns c =
    c.then_some.ensures ∙ find_one (tree_of (doc_of c.args.d.now)) c.args.name.now _ _ c.lower_bound-at.ensures
    c.in_ok-i.ensures.lookup.3.0 (c.in_ok-i.ensures.lookup.3.1 0) c.text_of.ensures c.requires.rises
    c.same_folded.ensures
