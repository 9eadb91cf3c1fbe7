use borrow.Author.Rules.{rules}
use mathlib.Core.Path.{◌∙◌, sym}
use Rattle.text.proofs.Turns.{order-cmp}
use Rattle.text.proofs.ReadTurns.{told-read, spent-read}
use Rattle.text.proofs.look_rest.Goals as goal

pub returns-then-is_ne-clause-value : goal.returns-then-is_ne-clause-value
returns-then-is_ne-clause-value g c =
    ((told-read g.R.Reading.read c.args.a.now c.args.b.now _ _ _ (search rules) (search rules) (search rules)
    c.look_at-next.ensures.value c.look_at-next.ensures.pairs_after).1 (sym c.is_ne.ensures ∙ c.if-is_ne.true)).0

pub returns-then-is_ne-clause-pairs_after : goal.returns-then-is_ne-clause-pairs_after
returns-then-is_ne-clause-pairs_after g c =
    ((told-read g.R.Reading.read c.args.a.now c.args.b.now _ _ _ (search rules) (search rules) (search rules)
    c.look_at-next.ensures.value c.look_at-next.ensures.pairs_after).1 (sym c.is_ne.ensures ∙ c.if-is_ne.true)).1

pub loop-pairs-preserved : goal.loop-pairs-preserved
loop-pairs-preserved g c =
    let p = told-read g.R.Reading.read c.args.a.now c.args.b.now _ _ _ (search rules) (search rules) (search rules)
    c.look_at-next.ensures.value c.look_at-next.ensures.pairs_after in
    (search rules, p.0 (sym c.is_ne.ensures ∙ c.if-is_ne.false))

pub returns-clause-value : goal.returns-clause-value
returns-clause-value g c =
    let r = spent-read g.R.Reading.read c.args.a.now c.args.b.now c.loop-pairs.pairs (search rules) (search rules) in
    c.cmp.ensures ∙ order-cmp _ _ ∙ r.0

pub returns-clause-pairs_after : goal.returns-clause-pairs_after
returns-clause-pairs_after g c =
    let r = spent-read g.R.Reading.read c.args.a.now c.args.b.now c.loop-pairs.pairs (search rules) (search rules) in r.1
