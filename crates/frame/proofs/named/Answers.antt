use borrow.Author.Rules.{rules}
use native.Mathlib.Omega.{arith}
use Rattle.frame.proofs.Laws.{width_few, to-there, to_is, to_inside, from-there, from_is, from-before}
use Rattle.frame.proofs.Turns.{cut-is, first-is}
use Rattle.frame.proofs.named.Goals as goal

pub width_of-width-requires : goal.width_of-width-requires
width_of-width-requires c =
    omega (arith, c.requires.sized.size)

pub end_at-at-requires : goal.end_at-at-requires
end_at-at-requires c =
    omega (arith, c.width_of-width.ensures, width_few c.args.s.now)

pub short_at-requires : goal.short_at-requires
short_at-requires c =
    to-there (c.requires.sized, (c.requires.names_value, c.requires.k_lt_names)) c.width_of-width.ensures c.end_at-at.ensures

pub overflow_add-to : goal.overflow_add-to
overflow_add-to c =
    let i = to_inside (c.requires.sized, (c.requires.names_value, c.requires.k_lt_names)) c.width_of-width.ensures c.end_at-at.ensures c.text_start-text.ensures c.short_at.ensures in
    search (rules, i.0, i.1)

pub slice_bounds-result-end : goal.slice_bounds-result-end
slice_bounds-result-end c =
    let i = to_inside (c.requires.sized, (c.requires.names_value, c.requires.k_lt_names)) c.width_of-width.ensures c.end_at-at.ensures c.text_start-text.ensures c.short_at.ensures in
    search (rules, i.0)

pub returns-then-k-eq0 : goal.returns-then-k-eq0
returns-then-k-eq0 c =
    first-is _ _ _ _ _ c.text_start-text.ensures c.if-k-eq0.true
    (to_is (c.requires.sized, (c.requires.names_value, c.requires.k_lt_names)) c.width_of-width.ensures c.end_at-at.ensures c.text_start-text.ensures c.short_at.ensures)

pub overflow_sub-at : goal.overflow_sub-at
overflow_sub-at c =
    let f = width_few c.args.s.now in
    omega (arith, c.width_of-width.ensures, f, c.end_at-at.ensures)

pub short_at-requires-2 : goal.short_at-requires-2
short_at-requires-2 c =
    from-there (c.requires.sized, (c.requires.names_value, c.requires.k_lt_names)) c.width_of-width.ensures c.end_at-at.ensures c.if-k-eq0.false

pub overflow_add-from : goal.overflow_add-from
overflow_add-from c =
    let i = to_inside (c.requires.sized, (c.requires.names_value, c.requires.k_lt_names)) c.width_of-width.ensures c.end_at-at.ensures c.text_start-text.ensures c.short_at.ensures in
    let b = from-before (c.requires.sized, (c.requires.names_value, c.requires.k_lt_names)) c.width_of-width.ensures c.end_at-at.ensures c.text_start-text.ensures c.short_at.ensures c.if-k-eq0.false c.short_at-2.ensures in
    search (rules, i.0, i.1, b)

pub slice_bounds-result-count-2 : goal.slice_bounds-result-count-2
slice_bounds-result-count-2 c =
    from-before (c.requires.sized, (c.requires.names_value, c.requires.k_lt_names)) c.width_of-width.ensures c.end_at-at.ensures c.text_start-text.ensures c.short_at.ensures c.if-k-eq0.false c.short_at-2.ensures

pub slice_bounds-result-start-2 : goal.slice_bounds-result-start-2
slice_bounds-result-start-2 c =
    let b = from-before (c.requires.sized, (c.requires.names_value, c.requires.k_lt_names)) c.width_of-width.ensures c.end_at-at.ensures c.text_start-text.ensures c.short_at.ensures c.if-k-eq0.false c.short_at-2.ensures in
    search (rules, b)

pub slice_bounds-result-end-2 : goal.slice_bounds-result-end-2
slice_bounds-result-end-2 c =
    let i = to_inside (c.requires.sized, (c.requires.names_value, c.requires.k_lt_names)) c.width_of-width.ensures c.end_at-at.ensures c.text_start-text.ensures c.short_at.ensures in
    search (rules, i.0)

pub returns : goal.returns
returns c =
    cut-is _ _ _ _ _ _ c.text_start-text.ensures
    (from_is (c.requires.sized, (c.requires.names_value, c.requires.k_lt_names)) c.width_of-width.ensures c.end_at-at.ensures c.text_start-text.ensures c.short_at.ensures c.if-k-eq0.false c.short_at-2.ensures)
    (to_is (c.requires.sized, (c.requires.names_value, c.requires.k_lt_names)) c.width_of-width.ensures c.end_at-at.ensures c.text_start-text.ensures c.short_at.ensures)
