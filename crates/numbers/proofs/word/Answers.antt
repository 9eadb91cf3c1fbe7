use Rattle.numbers.proofs.Hashes.{word-is}
use Rattle.numbers.proofs.word.Goals as goal

pub returns : goal.returns
returns c =
    word-is _ _ _ (λ i. (c.shared_slice_known-1.given i).fits) c.u32_at.ensures
