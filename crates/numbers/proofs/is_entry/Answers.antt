use borrow.Author.Rules.{rules}
use native.Mathlib.Omega.{arith}
use mathlib.Core.Path.{◌∙◌, sym}
use lib.ListN.{length-set}
use Rattle.numbers.proofs.Chains.{apart-hashes}
use Rattle.numbers.proofs.Alike.{marks-apart, marks-same, marks-both}
use Rattle.numbers.proofs.is_entry.Goals as goal

pub returns-then-link-hash-clause-value : goal.returns-then-link-hash-clause-value
returns-then-link-hash-clause-value c =
    apart-hashes _ _ _ _ c.requires.link_value c.requires.hash_value c.if-link-hash.true

pub returns-then-link-hash-clause-marks_after : goal.returns-then-link-hash-clause-marks_after
returns-then-link-hash-clause-marks_after c =
    marks-apart _ _ _ _ _ _ _ c.requires.link_value c.requires.hash_value c.if-link-hash.true

pub returns-then-is_name-clause-value : goal.returns-then-is_name-clause-value
returns-then-is_name-clause-value c =
    sym c.if-is_name.true ∙ c.is_name.ensures

pub returns-then-is_name-clause-marks_after : goal.returns-then-is_name-clause-marks_after
returns-then-is_name-clause-marks_after c =
    marks-same _ _ _ _ _ _ c.is_name.ensures c.if-is_name.true

pub bounds-marks-place : goal.bounds-marks-place
bounds-marks-place c =
    search (rules, c.requires.r_bound, c.requires.sizes_in_bounds)

pub bounds-marks-place-2 : goal.bounds-marks-place-2
bounds-marks-place-2 c =
    simp length-set (omega (arith, c.requires.i_bound, c.requires.sizes_in_bounds))

pub returns-clause-value : goal.returns-clause-value
returns-clause-value c =
    sym c.if-is_name.false ∙ c.is_name.ensures

pub returns-clause-marks_after : goal.returns-clause-marks_after
returns-clause-marks_after c =
    marks-both _ _ _ _ _ _ _ c.requires.link_value c.requires.hash_value c.if-link-hash.false _ c.is_name.ensures c.if-is_name.false _ _ c.place.ensures c.place-2.ensures
