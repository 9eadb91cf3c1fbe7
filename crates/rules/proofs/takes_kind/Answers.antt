use mathlib.Core.Logic.{⊎_elim}
use Rattle.lists.specs.Lists.{table, through}
use Rattle.rules.specs.Rules.{takes}
use Rattle.rules.proofs.Rows.{one_kind, in_first, in_second}
use Rattle.rules.proofs.takes_kind.Goals as goal

pub returns-in-WholeStatement : goal.returns-in-WholeStatement
unfolding takes table
returns-in-WholeStatement c =
    rw c.in-WholeStatement.is (one_kind _ _)

pub returns-in-Pattern : goal.returns-in-Pattern
unfolding takes table
returns-in-Pattern c =
    rw c.in-Pattern.is (one_kind _ _)

pub returns-in-Part : goal.returns-in-Part
unfolding takes table
returns-in-Part c =
    rw c.in-Part.is (one_kind _ _)

pub returns-in-Name : goal.returns-in-Name
unfolding takes table
returns-in-Name c =
    rw c.in-Name.is (one_kind _ _)

pub returns-in-SpanStart : goal.returns-in-SpanStart
unfolding takes table
returns-in-SpanStart c =
    ⊎_elim (λ e. rw e (one_kind _ _)) (λ e. rw e (one_kind _ _)) c.in-SpanStart.is

pub returns-in-WholeSchema : goal.returns-in-WholeSchema
unfolding takes table
returns-in-WholeSchema c =
    rw c.in-WholeSchema.is (one_kind _ _)

pub returns-then-between : goal.returns-then-between
unfolding takes table
returns-then-between c =
    rw c.in-Clause.is (in_first (through 70 79) (through 85 85) _ c.between.ensures c.if-between.true)

pub returns-else-between : goal.returns-else-between
unfolding takes table
returns-else-between c =
    rw c.in-Clause.is (in_second (through 70 79) (through 85 85) _ c.between.ensures c.if-between.false (one_kind _ _))

pub returns-then-between-2 : goal.returns-then-between-2
unfolding takes table
returns-then-between-2 c =
    rw c.in-Expr.is (in_first (through 1 14) (through 16 26) _ c.between-in-Expr.ensures c.if-between-2.true)

pub returns-else-between-2 : goal.returns-else-between-2
unfolding takes table
returns-else-between-2 c =
    rw c.in-Expr.is (in_second (through 1 14) (through 16 26) _ c.between-in-Expr.ensures c.if-between-2.false c.between-else-between-2.ensures)

pub returns-in-SetItem : goal.returns-in-SetItem
unfolding takes table
returns-in-SetItem c =
    rw c.in-SetItem.is c.between-in-SetItem.ensures

pub returns-in-RemoveItem : goal.returns-in-RemoveItem
unfolding takes table
returns-in-RemoveItem c =
    rw c.in-RemoveItem.is c.between-in-RemoveItem.ensures

pub returns-in-Element : goal.returns-in-Element
unfolding takes table
returns-in-Element c =
    rw c.in-Element.is c.between-in-Element.ensures

pub returns-in-MapItem : goal.returns-in-MapItem
unfolding takes table
returns-in-MapItem c =
    rw c.in-MapItem.is c.between-in-MapItem.ensures

pub returns-in-Declaration : goal.returns-in-Declaration
unfolding takes table
returns-in-Declaration c =
    rw c.in-Declaration.is c.between-in-Declaration.ensures

pub returns-in-LabelItem : goal.returns-in-LabelItem
unfolding takes table
returns-in-LabelItem c =
    rw c.in-LabelItem.is c.between-in-LabelItem.ensures

pub returns-in-RelTypeItem : goal.returns-in-RelTypeItem
unfolding takes table
returns-in-RelTypeItem c =
    rw c.in-RelTypeItem.is c.between-in-RelTypeItem.ensures

pub returns-in-PropertyType : goal.returns-in-PropertyType
unfolding takes table
returns-in-PropertyType c =
    rw c.in-PropertyType.is c.between-in-PropertyType.ensures
