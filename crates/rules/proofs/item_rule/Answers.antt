use mathlib.Core.Path.{refl}
use mathlib.Core.Logic.{inl, inr}
use native.Mathlib.Omega.{arith}
use Rattle.lists.specs.Lists.{table, first, any_of}
use Rattle.lists.proofs.Ranges.{every_from}
use Rattle.rules.specs.Rules.{rules, many, pairs, most_of, opens}
use Rattle.rules.proofs.Rows.{ruled-as, at-range, item-rest}
use Rattle.rules.proofs.item_rule.Goals as goal
use Rattle.rules.proofs.item_rule.Goals.{in_default-via-then-kind-lt27, in_default-via-else-kind-lt27+else-kind-lt29+else-kind-lt31+then-kind-lt50, in_default-via-else-kind-lt27+else-kind-lt29+else-kind-lt31+else-kind-lt50+else-kind-lt52}

pub returns-in-27-to-28 : goal.returns-in-27-to-28
unfolding most_of opens rules first any_of table many pairs every_from
returns-in-27-to-28 c =
    ruled-as c.named.ensures (at-range 27 28 (omega arith) (omega arith)
    (record { most = refl; below = λ h. refl }, (record { most = refl; below = λ h. refl }, tt)))

pub returns-in-29-to-30 : goal.returns-in-29-to-30
unfolding most_of opens rules first any_of table many pairs every_from
returns-in-29-to-30 c =
    ruled-as c.names.ensures (at-range 29 30 (omega arith) (omega arith)
    (record { most = refl; below = λ h. refl }, (record { most = refl; below = λ h. refl }, tt)))

pub returns-in-50-to-51 : goal.returns-in-50-to-51
unfolding most_of opens rules first any_of table many pairs every_from
returns-in-50-to-51 c =
    ruled-as c.leaf.ensures (at-range 50 51 (omega arith) (omega arith)
    (record { most = refl; below = λ h. refl }, (record { most = refl; below = λ h. refl }, tt)))

pub returns-in_default : goal.returns-in_default
returns-in_default c =
    ruled-as c.leaf-in_default.ensures (item-rest _ _ c.requires.le_kind c.requires.kind_bound
    (elim c.in_default.branch [
      | in_default-via-then-kind-lt27 w ↦ inl (omega arith)
      | in_default-via-else-kind-lt27+else-kind-lt29+else-kind-lt31+then-kind-lt50 w ↦ inr (inl ((omega arith), (omega arith)))
      | in_default-via-else-kind-lt27+else-kind-lt29+else-kind-lt31+else-kind-lt50+else-kind-lt52 w ↦ inr (inr (omega arith))
    ]))
