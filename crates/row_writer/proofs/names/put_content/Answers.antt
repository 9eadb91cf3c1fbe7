use borrow.Author.Rules.{rules}
use Rattle.row_writer.proofs.Putting.{content-as, nothing_put}
use Rattle.row_writer.proofs.Contents.{content-none, content-quoted, content-plain}
use lib.ListN.{length}
use native.Mathlib.Omega.{arith}
use mathlib.Core.Path.{ap}
use Rattle.row_writer.proofs.names.put_content.Goals as goal

pub returns-then-raw-eq0 : goal.returns-then-raw-eq0
returns-then-raw-eq0 c =
    content-as _ _ _ _ _ _ _ (content-none _ c.if-raw-eq0.true) (nothing_put _ _ _)

pub put_undoubled-requires-clause-f_in_bounds : goal.put_undoubled-requires-clause-f_in_bounds
put_undoubled-requires-clause-f_in_bounds c =
    let e = content-quoted c.args.raw.now c.if-raw-eq-DQUOTE.true in c.requires.f_in_bounds

pub put_undoubled-requires-clause-s_bound : goal.put_undoubled-requires-clause-s_bound
put_undoubled-requires-clause-s_bound c =
    let e = content-quoted c.args.raw.now c.if-raw-eq-DQUOTE.true in omega (arith, c.requires.raw_bound, ap length e)

pub returns-then-raw-eq-DQUOTE : goal.returns-then-raw-eq-DQUOTE
returns-then-raw-eq-DQUOTE c =
    content-as _ _ _ _ _ _ _ (content-quoted _ c.if-raw-eq-DQUOTE.true)
    c.put_undoubled.ensures

pub put_text-requires-clause-f_in_bounds : goal.put_text-requires-clause-f_in_bounds
put_text-requires-clause-f_in_bounds c =
    let e = content-plain c.args.raw.now c.if-raw-eq-DQUOTE.false in c.requires.f_in_bounds

pub put_text-requires-clause-piece_bound : goal.put_text-requires-clause-piece_bound
put_text-requires-clause-piece_bound c =
    let e = content-plain c.args.raw.now c.if-raw-eq-DQUOTE.false in omega (arith, c.requires.raw_bound, ap length e)

pub overflow_cast-result : goal.overflow_cast-result
overflow_cast-result c =
    let e = content-plain c.args.raw.now c.if-raw-eq-DQUOTE.false in
    omega (arith, c.requires.raw_bound, ap length e)

pub overflow_add-result : goal.overflow_add-result
overflow_add-result c =
    let e = content-plain c.args.raw.now c.if-raw-eq-DQUOTE.false in
    omega (arith, c.requires.raw_bound, ap length e)

pub returns : goal.returns
returns c =
    content-as _ _ _ _ _ _ _ (content-plain _ c.if-raw-eq-DQUOTE.false)
    (search rules, c.put_text.ensures)
