use mathlib.Core.Path.{refl, sym}
use Rattle.grammar.proofs.Skipping.{size_is}
use Rattle.schema.proofs.Searches.{search-on, search-end, searched-all}
use Rattle.lists.proofs.Tests.{never}
use Rattle.opening.proofs.any_again.Goals as goal

pub loop-j-init : goal.loop-j-init
loop-j-init c =
    λ k y. searched-all _ _ _ _ (size_is _ _ c.requires.schema.sheet)

pub is_again-requires-clause-registered : goal.is_again-requires-clause-registered
is_again-requires-clause-registered c =
    c.requires

pub is_again-requires-clause-j_lt_tokens : goal.is_again-requires-clause-j_lt_tokens
is_again-requires-clause-j_lt_tokens c =
    c.loop-j-test.true

pub returns-then-is_again : goal.returns-then-is_again
returns-then-is_again c =
    λ e. never (sym e)

pub loop-j-preserved : goal.loop-j-preserved
loop-j-preserved c =
    λ k y. search-on _ k _ _ _ _ _ (sym (c.is_again.ensures c.if-is_again.false k y)) (c.loop-j.invariant k y) c.loop-j-test.true refl

pub returns : goal.returns
returns c =
    λ e k y. search-end _ k _ _ _ _ (c.loop-j.invariant k y) c.loop-j-test.false
