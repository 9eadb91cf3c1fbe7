use native.Mathlib.Omega.{arith}
use mathlib.Core.Path.{refl, ◌∙◌, sym, ap}
use Rattle.grammar.proofs.Flat.{tree-kind}
use Rattle.properties.specs.Entering.{owner_kind}
use Rattle.properties.proofs.Clearing.{clear}
use Rattle.properties.proofs.Names.{going_start, going-asks, going_more, going_end}
use Rattle.properties.proofs.enter_marked.Goals as goal

pub kind-requires-clause-sound : goal.kind-requires-clause-sound
kind-requires-clause-sound g c =
    c.requires.element.register.statement

pub kind-requires-clause-i_lt_tokens : goal.kind-requires-clause-i_lt_tokens
kind-requires-clause-i_lt_tokens g c =
    c.requires.element.here

pub value-many-requires-clause-sound : goal.value-many-requires-clause-sound
value-many-requires-clause-sound g c =
    c.requires.element.register.statement

pub value-many-requires-clause-i_lt_tokens : goal.value-many-requires-clause-i_lt_tokens
value-many-requires-clause-i_lt_tokens g c =
    c.requires.element.here

pub loop-k-init : goal.loop-k-init
loop-k-init g c =
    going_start _ _ _ _ _ _ _ _

pub overflow_add-i : goal.overflow_add-i
overflow_add-i g c =
    omega (arith, c.requires.element.here, c.requires.element.register.statement.few_tokens)

pub overflow_add-i-in-loop-k : goal.overflow_add-i-in-loop-k
overflow_add-i-in-loop-k g c =
    omega (arith, c.requires.element.here, c.requires.element.register.statement.few_tokens, c.loop-k.invariant.low)

pub enter_name-requires-clause-registered : goal.enter_name-requires-clause-registered
enter_name-requires-clause-registered g c =
    let a = going-asks _ _ _ _ _ c.requires.element _ _ (c.owner_kind-kind.ensures ∙ ap owner_kind (c.kind.ensures ∙ sym (tree-kind _ _))) (rw c.value-many.ensures refl) _ _ c.requires.clear (clear _ _ c.requires.sizes_in_bounds) _ _ _ c.loop-k.invariant c.loop-k-test.true in c.requires.element.register

pub enter_name-requires-clause-owning : goal.enter_name-requires-clause-owning
enter_name-requires-clause-owning g c =
    let a = going-asks _ _ _ _ _ c.requires.element _ _ (c.owner_kind-kind.ensures ∙ ap owner_kind (c.kind.ensures ∙ sym (tree-kind _ _))) (rw c.value-many.ensures refl) _ _ c.requires.clear (clear _ _ c.requires.sizes_in_bounds) _ _ _ c.loop-k.invariant c.loop-k-test.true in a.0

pub enter_name-requires-clause-name_at : goal.enter_name-requires-clause-name_at
enter_name-requires-clause-name_at g c =
    let a = going-asks _ _ _ _ _ c.requires.element _ _ (c.owner_kind-kind.ensures ∙ ap owner_kind (c.kind.ensures ∙ sym (tree-kind _ _))) (rw c.value-many.ensures refl) _ _ c.requires.clear (clear _ _ c.requires.sizes_in_bounds) _ _ _ c.loop-k.invariant c.loop-k-test.true in a.1

pub enter_name-requires-clause-sizes_in_bounds : goal.enter_name-requires-clause-sizes_in_bounds
enter_name-requires-clause-sizes_in_bounds g c =
    let a = going-asks _ _ _ _ _ c.requires.element _ _ (c.owner_kind-kind.ensures ∙ ap owner_kind (c.kind.ensures ∙ sym (tree-kind _ _))) (rw c.value-many.ensures refl) _ _ c.requires.clear (clear _ _ c.requires.sizes_in_bounds) _ _ _ c.loop-k.invariant c.loop-k-test.true in a.2

pub enter_name-requires-clause-sizes_in_bounds_2 : goal.enter_name-requires-clause-sizes_in_bounds_2
enter_name-requires-clause-sizes_in_bounds_2 g c =
    let a = going-asks _ _ _ _ _ c.requires.element _ _ (c.owner_kind-kind.ensures ∙ ap owner_kind (c.kind.ensures ∙ sym (tree-kind _ _))) (rw c.value-many.ensures refl) _ _ c.requires.clear (clear _ _ c.requires.sizes_in_bounds) _ _ _ c.loop-k.invariant c.loop-k-test.true in a.3

pub loop-k-preserved : goal.loop-k-preserved
loop-k-preserved g c =
    going_more _ _ _ _ _ c.requires.element _ _ (c.owner_kind-kind.ensures ∙ ap owner_kind (c.kind.ensures ∙ sym (tree-kind _ _))) (rw c.value-many.ensures refl) _ _ c.requires.clear (clear _ _ c.requires.sizes_in_bounds) _ _ _ c.loop-k.invariant c.loop-k-test.true _ _ c.enter_name.auto.entered c.enter_name.auto.done c.enter_name.ensures.entered_after c.enter_name.ensures.done_after

pub shape_of-entered : goal.shape_of-entered
shape_of-entered g c =
    c.loop-k.invariant.size₁

pub returns : goal.returns
returns g c =
    going_end _ _ _ _ _ c.requires.element _ _ (c.owner_kind-kind.ensures ∙ ap owner_kind (c.kind.ensures ∙ sym (tree-kind _ _))) (rw c.value-many.ensures refl) _ _ c.requires.clear (clear _ _ c.requires.sizes_in_bounds) _ _ _ c.loop-k.invariant c.loop-k-test.false
