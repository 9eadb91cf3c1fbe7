use native.Mathlib.Omega.{arith}
use mathlib.Core.Path.{sym, ◌∙◌}
use Rattle.frame.specs.Doc.{doc_of}
use Rattle.grammar.specs.Tree.{tree_of}
use Rattle.grammar.proofs.Flat.{tree-value}
use Rattle.schema.proofs.Searches.{hit, there-is}
use Rattle.schema.proofs.Scans.{searched-decls}
use Rattle.schema.proofs.Named.{not-name}
use Rattle.provider.proofs.Lookups.{function-declares, function-unknown, function-takes}
use Rattle.provider.proofs.function.Goals as goal

pub function-requires-clause-registered : goal.function-requires-clause-registered
function-requires-clause-registered c =
    c.requires.registered

pub function-requires-clause-name_at : goal.function-requires-clause-name_at
function-requires-clause-name_at c =
    c.requires.name_at

pub returns-in_err-j : goal.returns-in_err-j
returns-in_err-j c =
    c.from_residual.ensures ∙ function-unknown _ _ ((tree_of (doc_of c.args.s.now)).text c.args.i) (λ q. searched-decls c.requires.registered.schema q _ function-declares) c.function.ensures c.in_err-j.was

pub value-value-requires-clause-sound : goal.value-value-requires-clause-sound
value-value-requires-clause-sound c =
    c.requires.registered.schema.sheet

pub value-value-requires-clause-i_lt_tokens : goal.value-value-requires-clause-i_lt_tokens
value-value-requires-clause-i_lt_tokens c =
    (hit _ _ _ _ _ _ (there-is _ _ c.function.ensures c.in_ok-j.was)).high

pub returns : goal.returns
returns c =
    let h = hit _ _ _ _ _ _ (there-is _ _ c.function.ensures c.in_ok-j.was) in function-takes _ _ ((tree_of (doc_of c.args.s.now)).text c.args.i) _ _ c.in_ok-j.was (c.value-value.ensures ∙ sym (tree-value _ _ (not-name _ _ h.kind (λ e. omega arith)))) (λ q. searched-decls c.requires.registered.schema q _ function-declares) c.function.ensures
