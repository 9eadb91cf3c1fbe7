use borrow.Author.Rules.{rules}
use mathlib.Core.Path.{◌∙◌}
use Rattle.utf8.specs.Utf8.{utf8}
use Rattle.utf8.proofs.Turns.{turn, done}
use Rattle.utf8.proofs.is_utf8.Goals as goal

pub loop-i-init : goal.loop-i-init
unfolding utf8
loop-i-init c =
    (search rules, rw c.awaits-st.ensures c.ascii_end-i.ensures.2)

pub loop-i-preserved : goal.loop-i-preserved
loop-i-preserved c =
    (search rules, c.onward-i.ensures.2 ∙ search (rules, turn))

pub returns : goal.returns
returns c =
    search (rules, done)
