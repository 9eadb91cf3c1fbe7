use borrow.Author.Rules.{rules}
use mathlib.Core.Path.{ap}
use Prim.Native.Nat.{ℕ, ◌*◌}
use native.Mathlib.Omega.{arith}
use native.Mathlib.Nat.{mul-le-mul_right}
use Rattle.frame.proofs.Laws.{width_few}
use Rattle.frame.proofs.sized_length.Goals as goal

pub end_at-requires : goal.end_at-requires
end_at-requires c =
    omega (arith, c.width_of.ensures, width_few c.args.s.now)

pub overflow_add-result : goal.overflow_add-result
overflow_add-result c =
    let e = ap (λ (w : ℕ). w * c.args.f.names) c.width_of.ensures in
    search (rules, mul-le-mul_right c.args.f.names (width_few c.args.s.now), e, c.end_at.ensures)

pub returns : goal.returns
returns c =
    let e = ap (λ (w : ℕ). w * c.args.f.names) c.width_of.ensures in
    omega (arith, c.end_at.ensures, e)
