use Rattle.std.proofs.Common.{ℕ, ◌*◌, ◌%◌, ◌^◌, ◌<◌, sym, refl, ap, ◌∙◌, subst, mod-lt, zero-add, arith, lit<}
use lib.Pow.{shr_le}
use lib.Count.{count_trailing_zeros}
use Rattle.fnv.proofs.Wrapping.{tz-lt, tz-some, tz-whole, mul-turn, mul-done}
use Rattle.fnv.proofs.wrapping_mul.Goals as goal

pub loop-rest-init : goal.loop-rest-init
loop-rest-init c =
    (ap (λ (x : ℕ). x % 2 ^ 64) (zero-add (c.args.a * c.args.b)), lit< tt, c.ranges.b.fits)

pub overflow_cast-shifted : goal.overflow_cast-shifted
overflow_cast-shifted c =
    omega (arith, tz-lt c.loop-rest.rest c.loop-rest-test.true c.loop-rest.invariant.2)

pub overflow_shl-shifted : goal.overflow_shl-shifted
overflow_shl-shifted c =
    tz-lt c.loop-rest.rest c.loop-rest-test.true c.loop-rest.invariant.2

pub overflow_cast-rest : goal.overflow_cast-rest
overflow_cast-rest c =
    omega (
      arith,
      tz-lt c.loop-rest.rest c.loop-rest-test.true
          c.loop-rest.invariant.2,
    )

pub overflow_shr-rest : goal.overflow_shr-rest
overflow_shr-rest c =
    tz-lt c.loop-rest.rest c.loop-rest-test.true c.loop-rest.invariant.2

pub overflow_sub-rest : goal.overflow_sub-rest
overflow_sub-rest c =
    tz-some c.loop-rest.rest c.loop-rest-test.true 64

pub loop-rest-smaller : goal.loop-rest-smaller
loop-rest-smaller c =
    omega (
      arith,
      tz-some c.loop-rest.rest c.loop-rest-test.true 64,
      shr_le c.loop-rest.rest (count_trailing_zeros 64 c.loop-rest.rest),
    )

pub loop-rest-preserved : goal.loop-rest-preserved
loop-rest-preserved c = (
  mul-turn
      c.loop-rest.sum
      c.loop-rest.shifted
      c.loop-rest.rest
      (count_trailing_zeros 64 c.loop-rest.rest)
      (2 ^ 64)
      _
      _
      (tz-whole 64 c.loop-rest.rest)
      (tz-some c.loop-rest.rest c.loop-rest-test.true 64)
      refl
      c.wrapping_add_u64-sum.ensures.value
      ∙ c.loop-rest.invariant.0,
  subst (λ (x : ℕ). x < 2 ^ 64) (sym c.wrapping_add_u64-sum.ensures.value) (mod-lt _ (lit< tt)),
  omega (
    arith,
    c.loop-rest.invariant.2,
    shr_le c.loop-rest.rest
        (count_trailing_zeros 64 c.loop-rest.rest),
  ),
)

pub returns : goal.returns
returns c =
    mul-done c.loop-rest.sum c.loop-rest.shifted c.loop-rest.rest _ (2 ^ 64) c.loop-rest-test.false
    c.loop-rest.invariant.1 c.loop-rest.invariant.0
