use native.Mathlib.Omega.{arith}
use mathlib.Core.Logic.{inl, inr}
use Rattle.grammar.proofs.Skipping.{rule-count, name-count, two-count, list_count, part_count, map-count, call-count, element-count, clause-count, create-count}
use Rattle.grammar.proofs.places_of.Goals as goal

pub returns-in-50 : goal.returns-in-50
returns-in-50 c =
    (name-count _ _ c.in-50.is, omega (arith, c.ranges.value))

pub returns-in-10 : goal.returns-in-10
returns-in-10 c =
    (two-count _ _ c.in-10.is, omega (arith, c.ranges.value))

pub returns-in-13 : goal.returns-in-13
returns-in-13 c =
    (list_count _ _ c.in-13.is, omega (arith, c.ranges.value))

pub returns-in-61 : goal.returns-in-61
returns-in-61 c =
    (part_count _ _ c.in-61.is, omega (arith, c.ranges.value))

pub returns-in-14 : goal.returns-in-14
returns-in-14 c =
    (map-count _ _ c.in-14.is, omega (arith, c.ranges.value))

pub returns-in-16 : goal.returns-in-16
returns-in-16 c =
    (call-count _ _ c.in-16.is, omega (arith, c.ranges.value))

pub returns-in-62 : goal.returns-in-62
returns-in-62 c =
    (element-count _ _ (inl c.in-62.is), omega (arith, c.ranges.value))

pub returns-in-63 : goal.returns-in-63
returns-in-63 c =
    (element-count _ _ (inr c.in-63.is), omega (arith, c.ranges.value))

pub returns-in-70 : goal.returns-in-70
returns-in-70 c =
    (clause-count _ _ c.in-70.is, omega (arith, c.ranges.value))

pub returns-in-71 : goal.returns-in-71
returns-in-71 c =
    (create-count _ _ c.in-71.is, omega (arith, c.ranges.value))

pub returns-in_default : goal.returns-in_default
returns-in_default c =
    (rule-count _ _ _ _ c.requires c.rule_of.ensures c.size_of.ensures.0, c.size_of.ensures.1)
