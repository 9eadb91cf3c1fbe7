use mathlib.Core.Bool.{true, false}
use mathlib.Core.Path.{◌∙◌}
use native.Mathlib.Omega.{arith}
use Rattle.frame.specs.Doc.{doc_of}
use Rattle.breach.specs.Breach.{statement_in, schema_in}
use Rattle.judge.proofs.Keyed.{start-number, end-number, map-keyed, map_found, map-missing, keyed-on, keyed-off}
use Rattle.judge.proofs.Merging.{late-unmerged, late-merged, keyless-when}
use Rattle.judge.proofs.Wrote.{wrote_none, wrote_as, wrote-length}
use Rattle.judge.proofs.keys.merge_item.Goals as goal

pub returns-then-held-ne-MERGE : goal.returns-then-held-ne-MERGE
returns-then-held-ne-MERGE c =
    wrote_as (late-unmerged (statement_in c.args.s.now) (schema_in c.args.d.now) c.args.i _ c.requires.held_value c.if-held-ne-MERGE.true)
    wrote_none

pub returns-in_default : goal.returns-in_default
returns-in_default c =
    wrote_as (keyed-off _ _ (map-missing (doc_of c.args.s.now) c.args.i c.map_of.ensures
    c.in_default.is) ∙ late-merged (statement_in c.args.s.now) (schema_in c.args.d.now) c.args.i _
    c.requires.held_value c.if-held-ne-MERGE.false) wrote_none

pub is_unbacked-requires-clause-map_of : goal.is_unbacked-requires-clause-map_of
is_unbacked-requires-clause-map_of c =
    map_found (doc_of c.args.s.now) c.args.i c.map_of.ensures _
    c.in-Some.is

pub put_at-requires-clause-i_value : goal.put_at-requires-clause-i_value
put_at-requires-clause-i_value c =
    start-number (doc_of c.args.s.now) c.requires.lent.read c.args.i (omega (arith, c.requires.lent.sheet.tokens, c.requires.i_lt_tokens))
    c.requires.i_value

pub put_at-requires-clause-i_value_2 : goal.put_at-requires-clause-i_value_2
put_at-requires-clause-i_value_2 c =
    end-number (doc_of c.args.s.now) c.requires.lent.read c.args.i
    (omega (arith, c.requires.lent.sheet.tokens, c.requires.i_lt_tokens)) c.requires.i_value

pub shape_of-list-then-is_unbacked : goal.shape_of-list-then-is_unbacked
shape_of-list-then-is_unbacked c =
    wrote-length c.put_at.ensures

pub returns-then-is_unbacked : goal.returns-then-is_unbacked
returns-then-is_unbacked c =
    wrote_as (keyless-when (statement_in c.args.s.now) (schema_in c.args.d.now) c.args.i _ _ true
    c.is_unbacked.ensures
    c.if-is_unbacked.true ∙ keyed-on _ _
    (map-keyed (doc_of c.args.s.now) c.args.i c.map_of.ensures _ c.in-Some.is)
    ∙ late-merged (statement_in c.args.s.now) (schema_in c.args.d.now) c.args.i _ c.requires.held_value
    c.if-held-ne-MERGE.false)
    c.put_at.ensures

pub returns : goal.returns
returns c =
    wrote_as (keyless-when (statement_in c.args.s.now) (schema_in c.args.d.now) c.args.i _ _ false
    c.is_unbacked.ensures c.if-is_unbacked.false ∙ keyed-on _ _
    (map-keyed (doc_of c.args.s.now) c.args.i c.map_of.ensures _
    c.in-Some.is) ∙ late-merged (statement_in c.args.s.now) (schema_in c.args.d.now)
    c.args.i _ c.requires.held_value c.if-held-ne-MERGE.false) wrote_none
