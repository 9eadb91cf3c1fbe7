use Rattle.judge.proofs.Wrote.{wrote_as, wrote-length}
use Rattle.walk.proofs.Steps.{said-late, room-node, room-keys, element-own}
use Rattle.walk.proofs.check_node_props.Goals as goal

pub shape_of-list-then-c : goal.shape_of-list-then-c
shape_of-list-then-c c =
    wrote-length c.merge_item.ensures

pub returns-then-c : goal.returns-then-c
returns-then-c c =
    wrote_as (said-late _ _ _ _ c.if-c.true)
    c.merge_item.ensures

pub node_item-noded-requires-clause-count_lt_half_count : goal.node_item-noded-requires-clause-count_lt_half_count
node_item-noded-requires-clause-count_lt_half_count c =
    room-node
    _ _ _ _ _ _ c.requires.tree_ready
    c.if-c.false
    c.requires.i_value
    c.name_items-named.ensures

pub key_items-requires-clause-count_lt_half_count : goal.key_items-requires-clause-count_lt_half_count
key_items-requires-clause-count_lt_half_count c =
    room-keys _ _ _ _ _ _
    c.requires.tree_ready c.if-c.false
    c.requires.i_value c.name_items-named.ensures
    c.node_item-noded.ensures

pub shape_of-list : goal.shape_of-list
shape_of-list c =
    wrote-length (element-own _ _ _ _ _ _ c.requires.tree_ready
    c.if-c.false
    c.requires.i_value c.name_items-named.ensures c.node_item-noded.ensures
    c.key_items.ensures)

pub returns : goal.returns
returns c =
    element-own _ _ _ _ _ _ c.requires.tree_ready
    c.if-c.false
    c.requires.i_value c.name_items-named.ensures c.node_item-noded.ensures
    c.key_items.ensures
