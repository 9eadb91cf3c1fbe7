use mathlib.Core.Path.{sym, ◌∙◌}
use native.Mathlib.Omega.{arith}
use borrow.Author.Rules.{rules}
use Rattle.frame.specs.Doc.{doc_of}
use Rattle.grammar.specs.Tree.{tree_of}
use Rattle.provider.specs.Schema.{schema_of}
use Rattle.judge.proofs.Wrote.{wrote_none, wrote_as}
use Rattle.judge.proofs.OfItems.{early-call, early-procedure, early-set, early-none}
use Rattle.judge.proofs.items.token_items.Goals as goal

pub call_item-requires-clause-i_value : goal.call_item-requires-clause-i_value
call_item-requires-clause-i_value c =
    sym c.kind.ensures ∙ c.in-16.is

pub returns-in-16 : goal.returns-in-16
returns-in-16 c =
    wrote_as (early-call (doc_of c.args.s.now) (schema_of (tree_of (doc_of c.args.d.now))) c.args.i _ c.requires.i_value
    c.kind.ensures c.in-16.is)
    c.call_item.ensures

pub procedure_item-requires-clause-i_value : goal.procedure_item-requires-clause-i_value
procedure_item-requires-clause-i_value c =
    sym c.kind.ensures ∙ c.in-85.is

pub returns-in-85 : goal.returns-in-85
returns-in-85 c =
    wrote_as (early-procedure (doc_of c.args.s.now) (schema_of (tree_of (doc_of c.args.d.now))) c.args.i _ c.requires.i_value
    c.kind.ensures
    (λ h. omega arith) c.in-85.is)
    c.procedure_item.ensures

pub set_item-requires-clause-i_value : goal.set_item-requires-clause-i_value
set_item-requires-clause-i_value c =
    sym c.kind.ensures ∙ c.in-82.is

pub returns-in-82 : goal.returns-in-82
returns-in-82 c =
    wrote_as (early-set (doc_of c.args.s.now) (schema_of (tree_of (doc_of c.args.d.now))) c.args.i _ c.requires.i_value
    c.kind.ensures
    (λ h. omega arith)
    (λ h. omega arith) c.in-82.is)
    c.set_item.ensures

pub returns-in_default : goal.returns-in_default
returns-in_default c =
    wrote_as (early-none (doc_of c.args.s.now) (schema_of (tree_of (doc_of c.args.d.now))) c.args.i _ c.requires.i_value
    c.kind.ensures (search rules) (search rules)
    (search rules)) wrote_none
