use native.Mathlib.Omega.{arith}
use mathlib.Core.Path.{sym, ◌∙◌}
use Rattle.grammar.proofs.Flat.{tree-value}
use Rattle.schema.proofs.Searches.{hit, there-is}
use Rattle.schema.proofs.Scans.{searched-decls}
use Rattle.schema.proofs.Named.{not-name}
use Rattle.register.proofs.Entries.{procedure-exact}
use Rattle.provider.proofs.Lookups.{procedure-declares, procedure-unknown, procedure-takes}
use Rattle.provider.proofs.procedure.Goals as goal

pub declared-requires-clause-registered : goal.declared-requires-clause-registered
declared-requires-clause-registered c =
    c.requires.registered

pub declared-requires-clause-exact : goal.declared-requires-clause-exact
declared-requires-clause-exact c =
    procedure-exact

pub declared-requires-clause-name_at : goal.declared-requires-clause-name_at
declared-requires-clause-name_at c =
    c.requires.name_at

pub returns-in_err-j : goal.returns-in_err-j
returns-in_err-j c =
    c.from_residual.ensures ∙ procedure-unknown _ _ _ (λ q. searched-decls c.requires.registered.schema q _ procedure-declares) c.declared.ensures c.in_err-j.was

pub value-requires-clause-sound : goal.value-requires-clause-sound
value-requires-clause-sound c =
    c.requires.registered.schema.sheet

pub value-requires-clause-i_lt_tokens : goal.value-requires-clause-i_lt_tokens
value-requires-clause-i_lt_tokens c =
    (hit _ _ _ _ _ _ (there-is _ _ c.declared.ensures c.in_ok-j.was)).high

pub returns : goal.returns
returns c =
    let h = hit _ _ _ _ _ _ (there-is _ _ c.declared.ensures c.in_ok-j.was) in procedure-takes _ _ _ _ _ c.in_ok-j.was (c.value.ensures ∙ sym (tree-value _ _ (not-name _ _ h.kind (λ e. omega arith)))) (λ q. searched-decls c.requires.registered.schema q _ procedure-declares) c.declared.ensures
