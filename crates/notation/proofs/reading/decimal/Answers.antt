use Rattle.std.proofs.Common.{rules, sym, ◌∙◌}
use Rattle.notation.proofs.Laws.{no_digit, digits-start, digits-turn, digits-stop, digits-end}
use Rattle.notation.proofs.reading.decimal.Goals as goal

pub returns-then-is_empty : goal.returns-then-is_empty
returns-then-is_empty c =
    search (rules, no_digit)

pub loop-b-init : goal.loop-b-init
loop-b-init c =
    search (rules, digits-start)

pub returns-in_err-n : goal.returns-in_err-n
returns-in_err-n c =
    rw c.from_residual.ensures (digits-stop _ _ _ c.loop-b.invariant c.loop-b-test.true (sym c.in_err-n.was ∙ c.longer.ensures))

pub loop-b-preserved : goal.loop-b-preserved
loop-b-preserved c =
    digits-turn _ _ _ c.loop-b.invariant _ c.loop-b-test.true (sym c.in_ok-n.was ∙ c.longer.ensures)

pub returns : goal.returns
returns c =
    search (rules, digits-end)
