use native.Mathlib.Omega.{arith}
use mathlib.Core.Path.{refl}
use mathlib.Core.List.{[], ◌∷◌}
use mathlib.Core.Logic.{inl, inr}
use Rattle.lists.specs.Lists.{table, first, any_of}
use Rattle.lists.proofs.Ranges.{every_from}
use Rattle.rules.specs.Rules.{rules, many, pairs, most_of, opens}
use Rattle.rules.proofs.Rows.{ruled-as, at_key, at_rest, schema_arms, type-ruled, schema-rest}
use Rattle.rules.proofs.schema_rule.Goals as goal
use Rattle.rules.proofs.schema_rule.Goals.{in_default-via-then-kind-lt100, in_default-via-else-kind-lt100+else-kind-lt106+then-kind-lt110, in_default-via-else-kind-lt100+else-kind-lt106+else-kind-lt110+else-kind-lt114+then-kind-lt120, in_default-via-else-kind-lt100+else-kind-lt106+else-kind-lt110+else-kind-lt114+else-kind-lt120+else-kind-lt129}

pub returns-in-100 : goal.returns-in-100
unfolding most_of opens rules first any_of table many pairs every_from
returns-in-100 c =
    ruled-as c.only.ensures (at_key c.in-100.is (record { most = refl; below = λ h. refl }))

pub returns-in-101 : goal.returns-in-101
unfolding most_of opens rules first any_of table many pairs every_from
returns-in-101 c =
    ruled-as c.named.ensures (at_key c.in-101.is
    (record { most = refl; below = λ h. refl }))

pub returns-in-102 : goal.returns-in-102
unfolding most_of opens rules first any_of table many pairs every_from
returns-in-102 c =
    ruled-as c.named-in-102.ensures (at_key c.in-102.is
    (record { most = refl; below = λ h. refl }))

pub returns-in-103 : goal.returns-in-103
unfolding most_of opens rules first any_of table many pairs every_from
returns-in-103 c =
    ruled-as c.parameter.ensures (at_key c.in-103.is
    (record { most = refl; below = λ h. refl }))

pub returns-in-106 : goal.returns-in-106
unfolding most_of opens rules first any_of table many pairs every_from
returns-in-106 c =
    ruled-as c.names.ensures (at_key c.in-106.is
    (record { most = refl; below = λ h. refl }))

pub returns-in-110 : goal.returns-in-110
unfolding most_of opens rules first any_of table many pairs every_from
returns-in-110 c =
    ruled-as c.named-in-110.ensures (at_key c.in-110.is
    (record { most = refl; below = λ h. refl }))

pub returns-in-111 : goal.returns-in-111
unfolding most_of opens rules first any_of table many pairs every_from
returns-in-111 c =
    ruled-as c.names-in-111.ensures (at_key c.in-111.is
    (record { most = refl; below = λ h. refl }))

pub returns-in-104-to-105 : goal.returns-in-104-to-105
unfolding most_of opens rules first any_of table many pairs every_from
returns-in-104-to-105 c =
    ruled-as c.names-in-104-to-105.ensures (at_rest schema_arms (104 ∷ 105 ∷ []) 100 6 refl
    c.in-104-to-105.in_default-own.rest c.in-104-to-105.if-kind-lt100-own.false c.in-104-to-105.if-kind-lt106-own.true
    (record { most = refl; below = λ h. refl }, (record { most = refl; below = λ h. refl }, tt)))

pub returns-in-112-to-113 : goal.returns-in-112-to-113
unfolding most_of opens rules first any_of table many pairs every_from
returns-in-112-to-113 c =
    ruled-as c.names-in-112-to-113.ensures (at_rest schema_arms (112 ∷ 113 ∷ []) 110 4 refl
    c.in-112-to-113.in_default-own.rest c.in-112-to-113.if-kind-lt110-own.false c.in-112-to-113.if-kind-lt114-own.true
    (record { most = refl; below = λ h. refl }, (record { most = refl; below = λ h. refl }, tt)))

pub returns-in-120-to-128 : goal.returns-in-120-to-128
returns-in-120-to-128 c =
    ruled-as c.leaf.ensures (type-ruled _ _ c.in-120-to-128.if-kind-lt120-own.false c.in-120-to-128.if-kind-lt129-own.true)

pub returns-in_default : goal.returns-in_default
returns-in_default c =
    ruled-as c.leaf-in_default.ensures (schema-rest _ _ c.in_default-1.rest
    c.requires c.ranges.kind.fits
    (elim c.in_default.branch [
      | in_default-via-then-kind-lt100 w ↦ inl (omega arith)
      | in_default-via-else-kind-lt100+else-kind-lt106+then-kind-lt110 w ↦ inr (inl ((omega arith), (omega arith)))
      | in_default-via-else-kind-lt100+else-kind-lt106+else-kind-lt110+else-kind-lt114+then-kind-lt120 w ↦ inr (inr (inl
          ((omega arith), (omega arith))))
      | in_default-via-else-kind-lt100+else-kind-lt106+else-kind-lt110+else-kind-lt114+else-kind-lt120+else-kind-lt129 w ↦ inr (inr (inr (omega arith)))
    ]))
