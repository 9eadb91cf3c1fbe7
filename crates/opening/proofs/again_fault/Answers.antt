use mathlib.Core.Path.{ap}
use Rattle.grammar.proofs.Skipping.{size_is}
use Rattle.schema.proofs.Searches.{search-hit, search-on, search-end, searched-all}
use Rattle.schema.specs.Declarations.{fault_at}
use Rattle.opening.proofs.again_fault.Goals as goal

pub loop-j-init : goal.loop-j-init
loop-j-init c =
    searched-all _ _ _ _ (size_is _ _ c.requires.registered.schema.sheet)

pub is_again_of-requires-clause-registered : goal.is_again_of-requires-clause-registered
is_again_of-requires-clause-registered c =
    c.requires.registered

pub is_again_of-requires-clause-exact : goal.is_again_of-requires-clause-exact
is_again_of-requires-clause-exact c =
    c.requires.exact

pub is_again_of-requires-clause-j_lt_tokens : goal.is_again_of-requires-clause-j_lt_tokens
is_again_of-requires-clause-j_lt_tokens c =
    c.loop-j-test.true

pub returns-then-is_again_of : goal.returns-then-is_again_of
returns-then-is_again_of c =
    ap (fault_at _) (search-hit _ _ _ _ _ _ _ c.is_again_of.ensures c.loop-j.invariant c.loop-j-test.true c.if-is_again_of.true)

pub loop-j-preserved : goal.loop-j-preserved
loop-j-preserved c =
    search-on _ _ _ _ _ _ _ c.is_again_of.ensures c.loop-j.invariant c.loop-j-test.true c.if-is_again_of.false

pub returns : goal.returns
returns c =
    ap (fault_at _) (search-end _ _ _ _ _ _ c.loop-j.invariant c.loop-j-test.false)
