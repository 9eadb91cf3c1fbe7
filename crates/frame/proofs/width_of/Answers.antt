use borrow.Author.Rules.{rules}
use Rattle.frame.proofs.Laws.{top-bit, width-byte}
use Rattle.frame.proofs.width_of.Goals as goal

pub overflow_cast-result : goal.overflow_cast-result
overflow_cast-result c =
    search (rules, top-bit c.args.s.now (λ i. (c.shared_slice_known-1.given i).fits))

pub overflow_mul-result : goal.overflow_mul-result
overflow_mul-result c =
    search (rules, top-bit c.args.s.now (λ i. (c.shared_slice_known-1.given i).fits))

pub overflow_sub-result : goal.overflow_sub-result
overflow_sub-result c =
    search (rules, top-bit c.args.s.now (λ i. (c.shared_slice_known-1.given i).fits))

pub returns : goal.returns
returns c =
    width-byte c.args.s.now (λ i. (c.shared_slice_known-1.given i).fits)
