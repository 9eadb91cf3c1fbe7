use mathlib.Core.Path.{refl, sym, subst}
use mathlib.Core.List.{Memᴰ}
use Rattle.breach.specs.Breach.{Item, statement_in, schema_in}
use Rattle.breach.specs.Listing.{listed}
use Rattle.walk.proofs.Clauses.{rooted}
use Rattle.message.proofs.Shown.{window-shows, entry-is}
use Rattle.message.proofs.Answered.{no_item, item-said}
use Rattle.message.proofs.message_lent.Goals as goal

pub check_clauses-many-requires : goal.check_clauses-many-requires
check_clauses-many-requires c =
    c.requires

pub returns-then-many-k : goal.returns-then-many-k
returns-then-many-k c =
    let t = statement_in c.args.s.now in
    let u = schema_in c.args.d.now in
    no_item t u (listed t u) c.args.k c.args.text.now c.check_clauses-many.ensures c.if-many-k.true
    c.refused.ensures

pub message_fitted-requires-clause-lent : goal.message_fitted-requires-clause-lent
message_fitted-requires-clause-lent c =
    let t = statement_in c.args.s.now in let u = schema_in c.args.d.now in let r = window-shows {xs = listed t u} c.check_clauses-many.ensures refl c.if-many-k.false in c.requires

pub message_fitted-requires-clause-fact : goal.message_fitted-requires-clause-fact
message_fitted-requires-clause-fact c =
    let t = statement_in c.args.s.now in let u = schema_in c.args.d.now in let r = window-shows {xs = listed t u} c.check_clauses-many.ensures refl c.if-many-k.false in subst (λ (x : Item). Memᴰ x (listed t u)) (sym (entry-is t u (rooted c.requires) r)) r.among

pub shape_of-text : goal.shape_of-text
shape_of-text c =
    c.message_fitted.auto.text

pub returns : goal.returns
returns c =
    let t = statement_in c.args.s.now in
    let u = schema_in c.args.d.now in
    let r = window-shows {xs = listed t u} c.check_clauses-many.ensures refl c.if-many-k.false in
    item-said t u (listed t u) c.args.k c.args.text.now r _ (entry-is t u (rooted c.requires) r) c.message_fitted.ensures
