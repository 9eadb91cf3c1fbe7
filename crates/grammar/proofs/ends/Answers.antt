use Rattle.grammar.proofs.Laws.{token-read, resumes-at, resumes-on, starts, no_span, span-read}
use mathlib.Core.Path.{◌∙◌}
use Rattle.grammar.specs.Inner.{read_of}
use Rattle.grammar.proofs.Below.{leaf-span-start, leaf-span-end}
use Rattle.grammar.proofs.ends.Goals as goal

pub returns-then-spans-eq0 : goal.returns-then-spans-eq0
returns-then-spans-eq0 c =
    token-read c.requires.sheet c.requires.inside ∙ no_span _ _ _ _ c.if-spans-eq0.true

pub leaves-start-requires-clause-resumes : goal.leaves-start-requires-clause-resumes
leaves-start-requires-clause-resumes c =
    resumes-at c.requires.sheet c.requires.inside

pub leaves-start-requires-clause-leaf : goal.leaves-start-requires-clause-leaf
leaves-start-requires-clause-leaf c =
    leaf-span-start

pub leaves-requires-clause-resumes : goal.leaves-requires-clause-resumes
leaves-requires-clause-resumes c =
    resumes-on _ (resumes-at c.requires.sheet c.requires.inside) _ c.leaves-start.ensures

pub leaves-requires-clause-leaf : goal.leaves-requires-clause-leaf
leaves-requires-clause-leaf c =
    leaf-span-end

pub returns : goal.returns
returns c =
    starts c.requires.sheet c.requires.inside _ (span-read _ (read_of c.args.at) _ _ c.leaves-start.ensures c.leaves.ensures)
