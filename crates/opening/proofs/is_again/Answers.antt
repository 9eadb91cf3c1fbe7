use native.Mathlib.Omega.{arith}
use mathlib.Core.Path.{sym}
use Rattle.opening.proofs.Singles.{in-single, kind-outside, not-again}
use Rattle.opening.proofs.is_again.Goals as goal

pub kind-kind-requires-clause-sound : goal.kind-kind-requires-clause-sound
kind-kind-requires-clause-sound c =
    c.requires.registered.schema.sheet

pub kind-kind-requires-clause-i_lt_tokens : goal.kind-kind-requires-clause-i_lt_tokens
kind-kind-requires-clause-i_lt_tokens c =
    c.requires.j_lt_tokens

pub returns-else-kind-le-PARAMETER : goal.returns-else-kind-le-PARAMETER
returns-else-kind-le-PARAMETER c =
    λ e. kind-outside _ _ _ c.kind-kind.ensures (λ l h. omega arith)

pub is_again-requires-clause-registered : goal.is_again-requires-clause-registered
is_again-requires-clause-registered c =
    c.requires.registered

pub is_again-requires-clause-exact : goal.is_again-requires-clause-exact
is_again-requires-clause-exact c =
    in-single _ (omega arith) (omega arith)

pub is_again-requires-clause-j_lt_tokens : goal.is_again-requires-clause-j_lt_tokens
is_again-requires-clause-j_lt_tokens c =
    c.requires.j_lt_tokens

pub is_again-requires-clause-j_value : goal.is_again-requires-clause-j_value
is_again-requires-clause-j_value c =
    sym c.kind-kind.ensures

pub returns-then-kind-le-PARAMETER : goal.returns-then-kind-le-PARAMETER
returns-then-kind-le-PARAMETER c =
    not-again _ _ _ c.kind-kind.ensures _ c.is_again.ensures
