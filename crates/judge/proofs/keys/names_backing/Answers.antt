use mathlib.Core.Path.{refl, sym, ap, ◌∙◌}
use Rattle.frame.specs.Doc.{doc_of}
use Rattle.grammar.specs.Tree.{tree_of}
use Rattle.grammar.proofs.Flat.{tree-kind}
use Rattle.provider.specs.Inner.{map_keys}
use Rattle.properties.specs.Entering.{owner_kind}
use Rattle.judge.proofs.Tupled.{going_start, going-asks, going_more, going_end}
use Rattle.judge.proofs.keys.names_backing.Goals as goal

pub loop-k-init : goal.loop-k-init
loop-k-init c =
    going_start _ _ _ _ _ _ _

pub name_backing-b-requires-clause-keyed : goal.name_backing-b-requires-clause-keyed
name_backing-b-requires-clause-keyed c =
    let a = going-asks _ _ _ _ _ c.requires.element _ _ (c.owner_kind-kind.ensures ∙ ap owner_kind (c.kind.ensures ∙ sym (tree-kind _ _))) (rw c.value-many.ensures refl) (map_keys (tree_of (doc_of c.args.s.now)) c.args.map) _ c.requires.clear _ _ _ c.loop-k.invariant c.loop-k-test.true in c.requires.keyed

pub name_backing-b-requires-clause-owning : goal.name_backing-b-requires-clause-owning
name_backing-b-requires-clause-owning c =
    let a = going-asks _ _ _ _ _ c.requires.element _ _ (c.owner_kind-kind.ensures ∙ ap owner_kind (c.kind.ensures ∙ sym (tree-kind _ _))) (rw c.value-many.ensures refl) (map_keys (tree_of (doc_of c.args.s.now)) c.args.map) _ c.requires.clear _ _ _ c.loop-k.invariant c.loop-k-test.true in a.0

pub name_backing-b-requires-clause-name_at : goal.name_backing-b-requires-clause-name_at
name_backing-b-requires-clause-name_at c =
    let a = going-asks _ _ _ _ _ c.requires.element _ _ (c.owner_kind-kind.ensures ∙ ap owner_kind (c.kind.ensures ∙ sym (tree-kind _ _))) (rw c.value-many.ensures refl) (map_keys (tree_of (doc_of c.args.s.now)) c.args.map) _ c.requires.clear _ _ _ c.loop-k.invariant c.loop-k-test.true in a.1

pub name_backing-b-requires-clause-sizes_in_bounds : goal.name_backing-b-requires-clause-sizes_in_bounds
name_backing-b-requires-clause-sizes_in_bounds c =
    let a = going-asks _ _ _ _ _ c.requires.element _ _ (c.owner_kind-kind.ensures ∙ ap owner_kind (c.kind.ensures ∙ sym (tree-kind _ _))) (rw c.value-many.ensures refl) (map_keys (tree_of (doc_of c.args.s.now)) c.args.map) _ c.requires.clear _ _ _ c.loop-k.invariant c.loop-k-test.true in a.2

pub loop-k-preserved : goal.loop-k-preserved
loop-k-preserved c =
    going_more _ _ _ _ _ c.requires.element _ _ (c.owner_kind-kind.ensures ∙ ap owner_kind (c.kind.ensures ∙ sym (tree-kind _ _))) (rw c.value-many.ensures refl) (map_keys (tree_of (doc_of c.args.s.now)) c.args.map) _ c.requires.clear _ _ _ c.loop-k.invariant c.loop-k-test.true _ _ _ c.name_backing-b.auto.done c.name_backing-b.ensures.value c.name_backing-b.ensures.done_after c.joined-total.ensures

pub returns : goal.returns
returns c =
    going_end _ _ _ _ _ c.requires.element _ _ (c.owner_kind-kind.ensures ∙ ap owner_kind (c.kind.ensures ∙ sym (tree-kind _ _))) (rw c.value-many.ensures refl) (map_keys (tree_of (doc_of c.args.s.now)) c.args.map) _ c.requires.clear _ _ _ c.loop-k.invariant c.loop-k-test.false
