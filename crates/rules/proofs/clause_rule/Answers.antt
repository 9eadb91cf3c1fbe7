use native.Mathlib.Omega.{arith}
use mathlib.Core.Path.{refl}
use mathlib.Core.List.{[], ◌∷◌}
use mathlib.Core.Logic.{inl, inr}
use Rattle.lists.specs.Lists.{table, first, any_of}
use Rattle.lists.proofs.Ranges.{every_from}
use Rattle.rules.specs.Rules.{rules, many, pairs, most_of, opens}
use Rattle.rules.proofs.Rows.{ruled-as, at_key, at-keys, at_rest, clause_arms, clause-rest}
use Rattle.rules.proofs.clause_rule.Goals as goal
use Rattle.rules.proofs.clause_rule.Goals.{in_default-via-then-kind-lt60, in_default-via-else-kind-lt60+else-kind-lt64+then-kind-lt70, in_default-via-else-kind-lt60+else-kind-lt64+else-kind-lt70+else-kind-lt73}

pub returns-in-60 : goal.returns-in-60
unfolding most_of opens rules first any_of table many pairs every_from
returns-in-60 c =
    ruled-as c.only.ensures (at_key c.in-60.is (record { most = refl; below = λ h. refl }))

pub returns-in-61 : goal.returns-in-61
unfolding most_of opens rules first any_of table many pairs every_from
returns-in-61 c =
    ruled-as c.only-in-61.ensures (at_key c.in-61.is
    (record { most = refl; below = λ h. refl }))

pub returns-in-73 : goal.returns-in-73
unfolding most_of opens rules first any_of table many pairs every_from
returns-in-73 c =
    ruled-as c.only-in-73.ensures (at-keys (73 ∷ 76 ∷ 81 ∷ 83 ∷ []) c.in-73.is (
      record { most = refl; below = λ h. refl },
      (
        record { most = refl; below = λ h. refl },
        (record { most = refl; below = λ h. refl }, (record { most = refl; below = λ h. refl }, tt)),
      ),
    ))

pub returns-in-74 : goal.returns-in-74
unfolding most_of opens rules first any_of table many pairs every_from
returns-in-74 c =
    ruled-as c.both.ensures (at_key c.in-74.is (record { most = refl; below = λ h. refl }))

pub returns-in-75 : goal.returns-in-75
unfolding most_of opens rules first any_of table many pairs every_from
returns-in-75 c =
    ruled-as c.only-in-75.ensures (at-keys (75 ∷ 79 ∷ []) c.in-75.is
    (record { most = refl; below = λ h. refl }, (record { most = refl; below = λ h. refl }, tt)))

pub returns-in-77 : goal.returns-in-77
unfolding most_of opens rules first any_of table many pairs every_from
returns-in-77 c =
    ruled-as c.only-in-77.ensures (at_key c.in-77.is
    (record { most = refl; below = λ h. refl }))

pub returns-in-78 : goal.returns-in-78
unfolding most_of opens rules first any_of table many pairs every_from
returns-in-78 c =
    ruled-as c.only-in-78.ensures (at_key c.in-78.is
    (record { most = refl; below = λ h. refl }))

pub returns-in-80 : goal.returns-in-80
unfolding most_of opens rules first any_of table many pairs every_from
returns-in-80 c =
    ruled-as c.only-in-80.ensures (at_key c.in-80.is
    (record { most = refl; below = λ h. refl }))

pub returns-in-82 : goal.returns-in-82
unfolding most_of opens rules first any_of table many pairs every_from
returns-in-82 c =
    ruled-as c.names.ensures (at-keys (82 ∷ 84 ∷ []) c.in-82.is
    (record { most = refl; below = λ h. refl }, (record { most = refl; below = λ h. refl }, tt)))

pub returns-in-85 : goal.returns-in-85
unfolding most_of opens rules first any_of table many pairs every_from
returns-in-85 c =
    ruled-as c.spanned.ensures (at_key c.in-85.is
    (record { most = refl; below = λ h. refl }))

pub returns-in-90 : goal.returns-in-90
unfolding most_of opens rules first any_of table many pairs every_from
returns-in-90 c =
    ruled-as c.only-in-90.ensures (at_key c.in-90.is
    (record { most = refl; below = λ h. refl }))

pub returns-in-62-to-63 : goal.returns-in-62-to-63
unfolding most_of opens rules first any_of table many pairs every_from
returns-in-62-to-63 c =
    ruled-as c.spanned-in-62-to-63.ensures (at_rest clause_arms (62 ∷ 63 ∷ []) 60 4 refl
    c.in-62-to-63.in_default-own.rest c.in-62-to-63.if-kind-lt60-own.false c.in-62-to-63.if-kind-lt64-own.true
    (record { most = refl; below = λ h. refl }, (record { most = refl; below = λ h. refl }, tt)))

pub returns-in-70-to-72 : goal.returns-in-70-to-72
unfolding most_of opens rules first any_of table many pairs every_from
returns-in-70-to-72 c =
    ruled-as c.only-in-70-to-72.ensures (at_rest clause_arms (70 ∷ 71 ∷ 72 ∷ []) 70 3 refl
    c.in-70-to-72.in_default-own.rest c.in-70-to-72.if-kind-lt70-own.false c.in-70-to-72.if-kind-lt73-own.true (
      record { most = refl; below = λ h. refl },
      (
        record { most = refl; below = λ h. refl },
        (record { most = refl; below = λ h. refl }, tt),
      ),
    ))

pub returns-in_default : goal.returns-in_default
returns-in_default c =
    ruled-as c.leaf.ensures (clause-rest _ _ c.in_default-1.rest
    c.requires.le_kind c.requires.kind_bound
    (elim c.in_default.branch [
      | in_default-via-then-kind-lt60 w ↦ inl (omega arith)
      | in_default-via-else-kind-lt60+else-kind-lt64+then-kind-lt70 w ↦ inr (inl ((omega arith), (omega arith)))
      | in_default-via-else-kind-lt60+else-kind-lt64+else-kind-lt70+else-kind-lt73 w ↦ inr (inr (omega arith))
    ]))
