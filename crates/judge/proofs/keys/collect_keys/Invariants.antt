use mathlib.Core.Path.{◌≡◌}
use Prim.Native.Nat.{ℕ, ◌+◌, ◌*◌, ◌≤◌, ◌<◌}
use lib.ListN.{length, get_or}
use Rattle.frame.specs.Limits.{max_tokens}
use Rattle.frame.specs.Doc.{doc_of, value_of}
use Rattle.grammar.specs.Tree.{tree_of, child}
use Rattle.judge.proofs.keys.collect_keys.Given as goal

abbrev pub invariant-loop-k : goal.invariant-loop-k
invariant-loop-k l = (l.k ≤ l.pairs) × ((l.at ≡ child (tree_of (doc_of l.s)) l.map (2 * l.k))
    × ((l.map + 1 + 2 * l.k ≤ l.at) × ((max_tokens ≤ 2 * length l.keys)
    × ((length l.keys ≡ length l.initial.keys) × ((j : ℕ) → j < l.k → get_or l.keys j 0 ≡ value_of (doc_of l.s)
    (child (tree_of (doc_of l.s)) l.map (2 * j)))))))
