use mathlib.Core.Path.{sym, ◌∙◌}
use native.Mathlib.Omega.{arith}
use Rattle.schema.proofs.Effects.{refuses}
use Rattle.rows.proofs.Rowed.{found}
use Rattle.rows.proofs.Answers.{broken, no_header, no_row, uneven, are-even, row_done}
use Rattle.rows.proofs.row_statement.Goals as goal

pub returns-then-not-is_csv : goal.returns-then-not-is_csv
returns-then-not-is_csv c =
    broken _ _ _ _ (sym c.is_csv.ensures ∙ c.if-not-is_csv.true)
    (refuses 17 0 0 _ c.refused.ensures)

pub find_row-requires : goal.find_row-requires
find_row-requires c =
    sym c.is_csv.ensures ∙ c.if-not-is_csv.false

pub returns-in_default : goal.returns-in_default
returns-in_default c =
    no_header _ _ _ _ (sym c.is_csv.ensures ∙ c.if-not-is_csv.false)
    (refuses 18 0 0 _ c.refused-in_default.ensures) (sym c.in_default.is ∙ c.find_row.ensures)

pub find_row-requires-2 : goal.find_row-requires-2
find_row-requires-2 c =
    sym c.is_csv.ensures ∙ c.if-not-is_csv.false

pub returns-in_default-find_row : goal.returns-in_default-find_row
returns-in_default-find_row c =
    no_row _ _ _ _ (sym c.is_csv.ensures ∙ c.if-not-is_csv.false)
    (refuses 18 0 0 _ c.refused-in_default-find_row.ensures)
    (sym c.in_default-find_row.is ∙ c.find_row-2.ensures)

pub returns-then-found-header : goal.returns-then-found-header
returns-then-found-header c =
    uneven _ _ _ _ _ _
    (found _ _ _ (sym c.in-Some.is ∙ c.find_row.ensures))
    (found _ _ _ (sym c.in-Some-find_row.is ∙ c.find_row-2.ensures))
    (λ z. omega (arith, c.if-found-header.true)) (refuses 18 0 0 _ c.refused-then-found-header.ensures)

pub write_row-requires : goal.write_row-requires
write_row-requires c =
    are-even _ _ _ _
    (found _ _ _ (sym c.in-Some.is ∙ c.find_row.ensures))
    (found _ _ _ (sym c.in-Some-find_row.is ∙ c.find_row-2.ensures))
    (omega (arith, c.if-found-header.false))

pub returns : goal.returns
returns c =
    row_done _ _ _ _ _ _
    (found _ _ _ (sym c.in-Some.is ∙ c.find_row.ensures))
    (found _ _ _ (sym c.in-Some-find_row.is ∙ c.find_row-2.ensures))
    (omega (arith, c.if-found-header.false)) c.write_row.ensures
