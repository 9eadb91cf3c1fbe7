use native.Mathlib.Omega.{arith}
use mathlib.Core.Path.{ap}
use mathlib.Core.List.{List, ◌++◌}
use Prim.Native.Nat.{ℕ}
use lib.ListN.{length}
use Rattle.text.specs.Text.{bytes}
use Rattle.phrase.proofs.Laws.{put_as}
use Rattle.phrase.proofs.Named.{text-short}
use Rattle.phrase.proofs.names.put_colon.Goals as goal

pub returns : goal.returns
unfolding bytes
returns c = (
  put_as (ap (λ (x : List ℕ). bytes ":" ++ x) c.text_of.ensures) c.put_both.ensures,
  omega (
    arith,
    c.put_both.ensures.ends,
    ap length c.text_of.ensures,
    text-short c.args.s.now c.args.f c.args.i c.requires.sound c.requires.name_at,
  ),
)
