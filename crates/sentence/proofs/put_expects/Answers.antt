use native.Mathlib.Omega.{arith}
use Rattle.text.specs.Text.{bytes}
use Rattle.phrase.proofs.Laws.{put-join}
use Rattle.sentence.proofs.put_expects.Goals as goal

pub returns : goal.returns
unfolding bytes
returns c =
    (put-join c.put_quoted-end.ensures.0 c.put_count.ensures.0, omega (arith, c.put_quoted-end.ensures.1, c.put_count.ensures.1))
