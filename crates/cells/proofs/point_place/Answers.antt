use borrow.Author.Rules.{rules}
use borrow.Author.Tests.{tests}
use mathlib.Core.Path.{◌∙◌, sym, ◌≡◌}
use mathlib.Core.Logic.{◌≢◌}
use Rattle.std.proofs.lemmas.Iterator.{YieldsList-from_slice, IsFirst-from_position}
use Rattle.cells.proofs.Turns.{point-first}
use Rattle.cells.specs.Kinds.{POINT}
use Rattle.cells.proofs.point_place.Goals as goal

pub returns : goal.returns
returns c =
    c.unwrap_or.ensures
    ∙ sym (point-first c.args.s.now c.position.result
    (IsFirst-from_position _ _ _ (λ x. x ≡ POINT) (λ x. x ≢ POINT) c.position.ensures.ran
    (YieldsList-from_slice c.args.s.now (search rules))
    (λ x q k. search (rules, tests)) (λ x q k. search (rules, tests))))
