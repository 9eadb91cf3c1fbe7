use native.Mathlib.Omega.{arith}
use mathlib.Core.Path.{sym, ◌∙◌}
use Rattle.types.proofs.Inferred.{no-token, shallow, scalar, empty, list, list-item, no-literal}
use Rattle.types.proofs.+infer_literal_type.Goals as goal

pub returns-then-f-at : goal.returns-then-f-at
returns-then-f-at t c =
    no-token _ _ _ c.requires.tokens c.if-f-at.true

pub value-requires : goal.value-requires
value-requires t c =
    record { sound = c.requires; i_lt_tokens = c.if-f-at.false }

pub returns-then-value-eq0 : goal.returns-then-value-eq0
returns-then-value-eq0 t c =
    empty _ _ _ c.requires.tokens
    c.if-f-at.false
    _ c.kind-kind.ensures _ c.in-13.is c.value.ensures
    c.if-value-eq0.true

pub overflow_add-at : goal.overflow_add-at
overflow_add-at t c =
    omega (arith, c.requires.few_tokens)

pub infer_literal_type-requires : goal.infer_literal_type-requires
infer_literal_type-requires t c = (
  omega (arith, c.decreases),
  c.requires,
)

pub returns-in-1-to-5 : goal.returns-in-1-to-5
returns-in-1-to-5 t c =
    scalar _ _ _ c.requires.tokens
    c.if-f-at.false
    _ c.kind-kind.ensures c.in-1-to-5.if-kind-lt1-own.false (omega (arith, c.in-1-to-5.if-kind-lt6-own.true))

pub returns-in_default : goal.returns-in_default
returns-in_default t c =
    no-literal _ _ _ c.requires.tokens
    c.if-f-at.false
    _ c.kind-kind.ensures (λ h g. omega arith) (λ e. omega arith)

pub returns-in_default-2 : goal.returns-in_default-2
returns-in_default-2 t c =
    no-literal _ _ _ c.requires.tokens
    c.if-f-at.false
    _ c.kind-kind.ensures (λ h g. omega arith) c.in_default.in_default-own.rest.1

pub overflow_add-result : goal.overflow_add-result
overflow_add-result t c =
    let h = shallow _ _ _ c.requires.tokens _ (sym c.in_ok-item-in-13.was ∙ c.infer_literal_type.ensures) in
    omega (arith, c.requires.few_tokens)

pub returns-in_ok-item-in-13 : goal.returns-in_ok-item-in-13
returns-in_ok-item-in-13 t c =
    list-item _ _ _ c.requires.tokens
    c.if-f-at.false
    _ c.kind-kind.ensures
    _ c.in-13.is
    c.value.ensures
    c.if-value-eq0.false
    _ (sym c.in_ok-item-in-13.was ∙ c.infer_literal_type.ensures)

pub returns-in_err-item-in-13 : goal.returns-in_err-item-in-13
returns-in_err-item-in-13 t c =
    rw c.from_residual.ensures
    (list _ _ _ c.requires.tokens
    c.if-f-at.false
    _ c.kind-kind.ensures
    _ c.in-13.is c.value.ensures
    c.if-value-eq0.false _ (sym c.in_err-item-in-13.was ∙ c.infer_literal_type.ensures))
