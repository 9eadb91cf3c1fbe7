use borrow.Author.Rules.{rules}
use borrow.Author.Tests.{tests, eqb-false}
use mathlib.Core.Path.{◌∙◌, sym}
use lib.ListN.{length}
use Rattle.std.specs.Char.{is_ascii_digit}
use Rattle.std.proofs.lemmas.Iterator.{YieldsList-from_slice}
use Rattle.std.proofs.lemmas.Iterator.Search.{all_from_yields_List}
use Rattle.cells.proofs.Turns.{all-digits, digits-start}
use Rattle.cells.proofs.is_digits.Goals as goal

pub returns-then-not-is_empty : goal.returns-then-not-is_empty
returns-then-not-is_empty c =
    all_from_yields_List is_ascii_digit _ _ _ c.all.ensures.ran (YieldsList-from_slice c.args.s.now (search rules))
    (λ x b q k. search (rules, tests))
    ∙ all-digits c.args.s.now ∙ digits-start c.args.s.now
    (eqb-false (length c.args.s.now) 0 (sym c.is_empty.ensures ∙ c.if-not-is_empty.true))
