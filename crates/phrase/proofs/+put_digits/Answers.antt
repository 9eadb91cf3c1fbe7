use native.Mathlib.Omega.{arith}
use Rattle.phrase.proofs.Laws.{put-none, put_as, put-join, no-digits, last-digit, more_digits}
use Rattle.phrase.proofs.+put_digits.Goals as goal

pub returns-then-left-eq0 : goal.returns-then-left-eq0
returns-then-left-eq0 t c = (put_as (no-digits _ _ c.if-left-eq0.true) put-none, omega arith)

pub returns-then-n-lt10 : goal.returns-then-n-lt10
returns-then-n-lt10 t c = (
  put_as (last-digit _ _ c.if-left-eq0.false c.if-n-lt10.true) c.put_digit.ensures,
  omega (arith, c.put_digit.ensures.ends),
)

pub returns : goal.returns
returns t c = (
  put_as (more_digits _ _ c.if-left-eq0.false c.if-n-lt10.false) (put-join c.put_digits-end.ensures.0 c.put_digit-2.ensures),
  omega (arith, c.put_digits-end.ensures.1, c.put_digit-2.ensures.ends),
)
