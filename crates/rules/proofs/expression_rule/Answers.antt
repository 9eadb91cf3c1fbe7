use native.Mathlib.Omega.{arith}
use mathlib.Core.Path.{refl, ap}
use mathlib.Core.List.{List, [], ◌∷◌}
use mathlib.Core.Logic.{inl, inr}
use Rattle.lists.specs.Lists.{table, first, any_of}
use Rattle.lists.proofs.Ranges.{every_from}
use Rattle.rules.specs.declared.Place.{Place}
use Rattle.rules.specs.declared.Place.TheVariants.{Expr, Pattern}
use Rattle.rules.specs.Rules.{rules, many, pairs, most_of, opens}
use Rattle.rules.proofs.Rows.{ruled-as, at_key, at-keys, at_rest, expression_arms, flagged, slice-row, case_row, expression-rest}
use Rattle.rules.proofs.expression_rule.Goals as goal
use Rattle.rules.proofs.expression_rule.Goals.{in_default-via-then-kind-lt16, in_default-via-else-kind-lt16+else-kind-lt20}

pub returns-in-10 : goal.returns-in-10
unfolding most_of opens rules first any_of table many pairs every_from
returns-in-10 c =
    ruled-as c.named.ensures (at_key c.in-10.is (record { most = refl; below = λ h. refl }))

pub returns-in-11 : goal.returns-in-11
unfolding most_of opens rules first any_of table many pairs every_from
returns-in-11 c =
    ruled-as c.only.ensures (at-keys (11 ∷ 17 ∷ 21 ∷ []) c.in-11.is (
      record { most = refl; below = λ h. refl },
      (
        record { most = refl; below = λ h. refl },
        (record { most = refl; below = λ h. refl }, tt),
      ),
    ))

pub returns-in-12 : goal.returns-in-12
unfolding most_of opens rules first any_of table many pairs every_from
returns-in-12 c =
    ruled-as c.both.ensures (at_key c.in-12.is
    (record { most = refl; below = λ h. slice-row c.args.v }))

pub returns-in-13 : goal.returns-in-13
unfolding most_of opens rules first any_of table many pairs every_from
returns-in-13 c =
    ruled-as c.only-in-13.ensures (at_key c.in-13.is
    (record { most = refl; below = λ h. refl }))

pub returns-in-14 : goal.returns-in-14
unfolding most_of opens rules first any_of table many pairs every_from
returns-in-14 c =
    ruled-as c.pairs.ensures (at_key c.in-14.is
    (record { most = refl; below = λ h. refl }))

pub returns-in-16 : goal.returns-in-16
unfolding most_of opens rules first any_of table many pairs every_from
returns-in-16 c =
    ruled-as c.named-in-16.ensures (at_key c.in-16.is
    (record { most = refl; below = λ h. refl }))

pub returns-in-20 : goal.returns-in-20
unfolding most_of opens rules first any_of table many pairs every_from
returns-in-20 c =
    ruled-as c.both-in-20.ensures (at_key c.in-20.is
    (record { most = refl; below = λ h. case_row c.args.v }))

pub returns-in-22 : goal.returns-in-22
unfolding most_of opens rules first any_of table many pairs every_from
returns-in-22 c =
    ruled-as c.only-in-22.ensures (at_key c.in-22.is
    (record { most = refl; below = λ h. refl }))

pub returns-in-23 : goal.returns-in-23
unfolding most_of opens rules first any_of table many pairs every_from
returns-in-23 c =
    ruled-as c.both-in-23.ensures (at_key c.in-23.is
    (record { most = refl; below = λ h. ap (λ (ps : List Place). Pattern ∷ ps) (flagged _ h) }))

pub returns-in-24 : goal.returns-in-24
unfolding most_of opens rules first any_of table many pairs every_from
returns-in-24 c =
    ruled-as c.both-in-24.ensures (at_key c.in-24.is
    (record { most = refl; below = λ h. ap (λ (ps : List Place). Expr ∷ ps) (flagged _ h) }))

pub returns-in-25 : goal.returns-in-25
unfolding most_of opens rules first any_of table many pairs every_from
returns-in-25 c =
    ruled-as c.both-in-25.ensures (at_key c.in-25.is
    (record { most = refl; below = λ h. refl }))

pub returns-in-26 : goal.returns-in-26
unfolding most_of opens rules first any_of table many pairs every_from
returns-in-26 c =
    ruled-as c.both-in-26.ensures (at_key c.in-26.is
    (record { most = refl; below = λ h. refl }))

pub returns-in-18-to-19 : goal.returns-in-18-to-19
unfolding most_of opens rules first any_of table many pairs every_from
returns-in-18-to-19 c =
    ruled-as c.only-in-18-to-19.ensures (at_rest expression_arms (18 ∷ 19 ∷ []) 16 4 refl
    c.in-18-to-19.in_default-own.rest c.in-18-to-19.if-kind-lt16-own.false c.in-18-to-19.if-kind-lt20-own.true
    (record { most = refl; below = λ h. refl }, (record { most = refl; below = λ h. refl }, tt)))

pub returns-in_default : goal.returns-in_default
returns-in_default c =
    ruled-as c.leaf.ensures (expression-rest _ _ c.in_default-1.rest
    c.requires (elim c.in_default.branch [
      | in_default-via-then-kind-lt16 w ↦ inl (omega arith)
      | in_default-via-else-kind-lt16+else-kind-lt20 w ↦ inr (omega arith)
    ]))
