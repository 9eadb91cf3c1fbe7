use Rattle.frame.specs.Doc.{doc_of}
use Rattle.judge.proofs.Keyed.{map-keyed, map_found, map-missing, keyed-on, keyed-off}
use Rattle.judge.proofs.Wrote.{wrote_none, wrote_as, wrote-length}
use Rattle.judge.proofs.keys.key_items.Goals as goal

pub returns-in_default : goal.returns-in_default
returns-in_default c =
    wrote_as (keyed-off _ _ (map-missing (doc_of c.args.s.now) c.args.i c.map_of.ensures
    c.in_default.is)) wrote_none

pub named_items-requires-clause-map_of : goal.named_items-requires-clause-map_of
named_items-requires-clause-map_of c =
    map_found (doc_of c.args.s.now) c.args.i
    c.map_of.ensures _ c.in-Some.is

pub shape_of-list : goal.shape_of-list
shape_of-list c =
    wrote-length c.named_items.ensures

pub returns : goal.returns
returns c =
    wrote_as (keyed-on _ _ (map-keyed (doc_of c.args.s.now) c.args.i
    c.map_of.ensures _
    c.in-Some.is)) c.named_items.ensures
