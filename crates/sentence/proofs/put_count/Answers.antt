use native.Mathlib.Omega.{arith}
use mathlib.Core.Path.{sym, ap, ◌∙◌}
use Rattle.provider.specs.declared.Callee.{Callee}
use Rattle.text.specs.Text.{bytes}
use Rattle.phrase.proofs.Laws.{put-none, put_as, put-join, put-length}
use Rattle.sentence.specs.Inner.{counted}
use Rattle.std.specs.Prelude.{Option}
use Rattle.sentence.proofs.put_count.Goals as goal

pub returns-in_default : goal.returns-in_default
returns-in_default c = (
  put_as (ap (λ (x : Option Callee). counted x c.args.n)
      (sym c.in_default.is)) put-none,
  omega arith,
)

pub returns : goal.returns
unfolding bytes
returns c = (
  put_as (ap (λ (x : Option Callee). counted x c.args.n) (sym c.in-Some.is))
      (put-join (put-join (put-join c.put_bound-bound.ensures.0
      c.put_decimal-least.ensures.0) c.put-but.ensures)
      c.put_decimal.ensures.0),
  omega (
    arith,
    c.put_bound-bound.ensures.1,
    c.put_decimal-least.ensures.1,
    c.put-but.ensures.ends,
    c.put_decimal.ensures.1,
  ),
)
