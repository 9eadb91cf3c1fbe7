use mathlib.Core.Path.{◌∙◌}
use Rattle.judge.proofs.Wrote.{wrote-length}
use Rattle.walk.proofs.Clauses.{no_element, no-pattern, below-ready, first-pass, one-pass, pattern-below, late-ready, both-passes}
use Rattle.walk.proofs.check_clause.Goals as goal

pub token_items-tallied-requires-clause-i_value : goal.token_items-tallied-requires-clause-i_value
token_items-tallied-requires-clause-i_value c =
    no_element _ _ _ _ _ c.requires

pub check_expr-a-requires-clause-below_ready : goal.check_expr-a-requires-clause-below_ready
check_expr-a-requires-clause-below_ready c =
    below-ready _ _ _ _ _ c.requires c.token_items-tallied.ensures

pub check_expr-a-requires-clause-i_value : goal.check_expr-a-requires-clause-i_value
check_expr-a-requires-clause-i_value c =
    no-pattern _ _ _ _ _ c.requires

pub shape_of-list-then-kind-ne-MERGE : goal.shape_of-list-then-kind-ne-MERGE
shape_of-list-then-kind-ne-MERGE c =
    wrote-length c.check_expr-a.ensures.wrote ∙ wrote-length c.token_items-tallied.ensures

pub returns-then-kind-ne-MERGE : goal.returns-then-kind-ne-MERGE
returns-then-kind-ne-MERGE c =
    one-pass _ _ _ _ _ c.requires (first-pass _ _ _ _ _ c.requires c.token_items-tallied.ensures c.check_expr-a.ensures)
    c.kind.ensures c.if-kind-ne-MERGE.true

pub check_merge_keys-requires-clause-tree_ready : goal.check_merge_keys-requires-clause-tree_ready
check_merge_keys-requires-clause-tree_ready c =
    let p = first-pass _ _ _ _ _ c.requires c.token_items-tallied.ensures c.check_expr-a.ensures in late-ready _ _ _ _ _ c.requires p c.kind.ensures c.if-kind-ne-MERGE.false

pub check_merge_keys-requires-clause-i_value : goal.check_merge_keys-requires-clause-i_value
check_merge_keys-requires-clause-i_value c =
    let p = first-pass _ _ _ _ _ c.requires c.token_items-tallied.ensures c.check_expr-a.ensures in pattern-below _ _ _ _ _ c.requires p c.kind.ensures c.if-kind-ne-MERGE.false

pub shape_of-list : goal.shape_of-list
shape_of-list c =
    wrote-length c.check_merge_keys.ensures.wrote ∙ wrote-length c.check_expr-a.ensures.wrote
    ∙ wrote-length c.token_items-tallied.ensures

pub returns : goal.returns
returns c =
    both-passes _ _ _ _ _ c.requires (first-pass _ _ _ _ _ c.requires c.token_items-tallied.ensures c.check_expr-a.ensures)
    c.kind.ensures c.if-kind-ne-MERGE.false c.check_merge_keys.ensures
