use native.Mathlib.Omega.{arith}
use lib.ListN.{length-set}
use Rattle.written.proofs.Begun.{token-put}
use Rattle.written.proofs.put_token.Goals as goal

pub put_u32-requires : goal.put_u32-requires
put_u32-requires c =
    simp length-set (omega arith)

pub returns : goal.returns
returns c =
    token-put _ _ _ _ _ _ c.requires.i_lt_tokens
    c.put_u32.ensures
