use native.Mathlib.Omega.{arith}
use mathlib.Core.Path.{refl, ap}
use Rattle.schema.specs.Declarations.{fault_at}
use Rattle.register.proofs.Aparts.{apart-is-one}
use Rattle.opening.proofs.Equals.{aparts-stop, aparts-hit, aparts-on, aparts-end}
use Rattle.opening.proofs.apart_fault.Goals as goal

pub loop-k-init : goal.loop-k-init
loop-k-init c =
    refl

pub apart-j-requires-clause-registered : goal.apart-j-requires-clause-registered
apart-j-requires-clause-registered c =
    c.requires

pub apart-j-requires-clause-k_le_tokens : goal.apart-j-requires-clause-k_le_tokens
apart-j-requires-clause-k_le_tokens c =
    omega (arith, c.loop-k-test.true)

pub returns-then-j-eq0 : goal.returns-then-j-eq0
returns-then-j-eq0 c =
    ap (fault_at _) (aparts-stop _ _ c.requires.schema _ _ _ c.loop-k.invariant _ c.apart-j.ensures c.if-j-eq0.true)

pub is_equal_apart-requires-clause-registered : goal.is_equal_apart-requires-clause-registered
is_equal_apart-requires-clause-registered c =
    let o = apart-is-one _ _ c.requires.schema _ _ c.apart-j.ensures c.if-j-eq0.false in c.requires

pub is_equal_apart-requires-clause-j_lt_tokens : goal.is_equal_apart-requires-clause-j_lt_tokens
is_equal_apart-requires-clause-j_lt_tokens c =
    let o = apart-is-one _ _ c.requires.schema _ _ c.apart-j.ensures c.if-j-eq0.false in o.0

pub is_equal_apart-requires-clause-j_value : goal.is_equal_apart-requires-clause-j_value
is_equal_apart-requires-clause-j_value c =
    let o = apart-is-one _ _ c.requires.schema _ _ c.apart-j.ensures c.if-j-eq0.false in o.1

pub returns-then-is_equal_apart : goal.returns-then-is_equal_apart
returns-then-is_equal_apart c =
    ap (fault_at _) (aparts-hit _ _ c.requires.schema _ _ _ c.loop-k.invariant _ c.apart-j.ensures c.if-j-eq0.false _ c.is_equal_apart.ensures c.if-is_equal_apart.true)

pub loop-k-preserved : goal.loop-k-preserved
loop-k-preserved c =
    aparts-on _ _ c.requires.schema _ _ _ c.loop-k.invariant _ c.apart-j.ensures c.if-j-eq0.false _ c.is_equal_apart.ensures c.if-is_equal_apart.false

pub returns : goal.returns
returns c =
    ap (fault_at _) (aparts-end _ _ c.requires.schema _ _ c.loop-k.k c.loop-k.invariant (omega (arith, c.loop-k-test.false)))
