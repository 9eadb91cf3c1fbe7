use borrow.Author.Rules.{rules}
use Rattle.frame.proofs.Laws.{text-there, size-most}
use Rattle.frame.proofs.Turns.{part-is}
use Rattle.frame.proofs.part.Goals as goal

pub overflow_add-a : goal.overflow_add-a
overflow_add-a c =
    search (rules, text-there c.args.s.now c.args.f _ c.requires.thin_value c.text_at-text.ensures, c.requires.sized.size, size-most _ _ c.requires.sized)

pub overflow_add-e : goal.overflow_add-e
overflow_add-e c =
    search (rules, text-there c.args.s.now c.args.f _ c.requires.thin_value c.text_at-text.ensures, c.requires.sized.size, size-most _ _ c.requires.sized)

pub slice_bounds-result-end : goal.slice_bounds-result-end
slice_bounds-result-end c =
    search (rules, text-there c.args.s.now c.args.f _ c.requires.thin_value c.text_at-text.ensures, c.requires.sized.size)

pub returns : goal.returns
returns c =
    part-is _ _ _ _ _ (text-there c.args.s.now c.args.f _ c.requires.thin_value c.text_at-text.ensures)
