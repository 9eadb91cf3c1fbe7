use borrow.Author.Rules.{rules}
use mathlib.Core.Path.{◌∙◌, sym}
use mathlib.Core.List.{map}
use lib.ListN.{length-map}
use native.Mathlib.Omega.{arith}
use Rattle.text.proofs.Turns.{start-most}
use Rattle.text.proofs.look_order.Goals as goal

pub overflow_sub-n : goal.overflow_sub-n
overflow_sub-n g c =
    let m = start-most (map g.R.Reading.read c.args.a.now) (map g.R.Reading.read c.args.b.now) in
    let p = length-map c.args.a.now g.R.Reading.read in
    let q = length-map c.args.b.now g.R.Reading.read in
    omega (arith, m.0, m.1, p, q)

pub returns-then-is_ne-clause-value : goal.returns-then-is_ne-clause-value
returns-then-is_ne-clause-value g c =
    (c.look_step-order.ensures.told.1 (sym c.is_ne.ensures ∙ c.if-is_ne.true)).0

pub returns-then-is_ne-clause-pairs_after : goal.returns-then-is_ne-clause-pairs_after
returns-then-is_ne-clause-pairs_after g c =
    (c.look_step-order.ensures.told.1 (sym c.is_ne.ensures ∙ c.if-is_ne.true)).1

pub loop-pairs-preserved : goal.loop-pairs-preserved
loop-pairs-preserved g c =
    (search rules, c.look_step-order.ensures.told.0 (sym c.is_ne.ensures ∙ c.if-is_ne.false))
