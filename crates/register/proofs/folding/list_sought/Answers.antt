use native.Mathlib.Omega.{arith}
use mathlib.Core.Path.{refl, ◌∙◌}
use Rattle.register.proofs.Sought.{seeking-start, seeking-end}
use Rattle.register.proofs.folding.list_sought.Goals as goal

pub loop-j-init : goal.loop-j-init
loop-j-init c =
    (seeking-start _ _ _ c.args.marks.now _, omega arith, refl)

pub list_one-many-requires-clause-folding : goal.list_one-many-requires-clause-folding
list_one-many-requires-clause-folding c =
    c.requires.folding

pub list_one-many-requires-clause-sizes_in_bounds : goal.list_one-many-requires-clause-sizes_in_bounds
list_one-many-requires-clause-sizes_in_bounds c =
    c.requires.sizes_in_bounds

pub list_one-many-requires-clause-j_lt_tokens : goal.list_one-many-requires-clause-j_lt_tokens
list_one-many-requires-clause-j_lt_tokens c =
    c.loop-j-test.true

pub list_one-many-requires-clause-tokens_in_bounds : goal.list_one-many-requires-clause-tokens_in_bounds
list_one-many-requires-clause-tokens_in_bounds c =
    omega (arith, c.requires.tokens_in_bounds, c.loop-j.invariant.2)

pub list_one-many-requires-clause-seeking : goal.list_one-many-requires-clause-seeking
list_one-many-requires-clause-seeking c =
    c.loop-j.invariant.0

pub loop-j-preserved : goal.loop-j-preserved
loop-j-preserved c =
    (c.list_one-many.ensures, omega (arith, c.loop-j-test.true), c.list_one-many.auto.list ∙ c.loop-j.invariant.2)

pub shape_of-list : goal.shape_of-list
shape_of-list c =
    c.loop-j.invariant.2

pub returns : goal.returns
returns c =
    seeking-end _ _ _ _ _ c.loop-j.invariant.0 c.loop-j.invariant.1 c.loop-j-test.false
