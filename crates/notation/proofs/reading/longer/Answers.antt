use Rattle.std.proofs.Common.{◌∙◌, arith}
use Rattle.notation.proofs.Laws.{before-digits, behind-digits, converted}
use Rattle.notation.proofs.reading.longer.Goals as goal

pub returns-in_default : goal.returns-in_default
returns-in_default c = before-digits c.args.n c.args.b (omega arith)

pub returns-in_default-2 : goal.returns-in_default-2
returns-in_default-2 c = behind-digits c.args.n c.args.b (omega arith)

pub returns-in-48-to-57 : goal.returns-in-48-to-57
returns-in-48-to-57 c =
    c.ok.ensures.value ∙ converted c.args.n c.args.b c.try_from.result (omega arith) (omega arith) c.try_from.ensures
