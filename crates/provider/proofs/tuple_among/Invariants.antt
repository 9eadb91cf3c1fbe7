use Prim.Native.Nat.{◌+◌, ◌-◌}
use mathlib.Core.Path.{◌≡◌}
use Rattle.lists.specs.Lists.{all_of}
use Rattle.text.specs.Text.{is_text}
use Rattle.frame.specs.Doc.{doc_of}
use Rattle.grammar.specs.Tree.{tree_of, texts}
use Rattle.provider.specs.Schema.{tuple_at}
use Rattle.provider.specs.Inner.{map_keys}
use Rattle.provider.proofs.tuple_among.Given as goal

abbrev pub invariant-loop-i : goal.invariant-loop-i
invariant-loop-i l = all_of (is_text (map_keys (tree_of (doc_of l.s)) l.map)) (texts (tree_of (doc_of l.d)) (l.j + 1 + l.i) (l.count - l.i))
    ≡ all_of (is_text (map_keys (tree_of (doc_of l.s)) l.map)) (tuple_at (tree_of (doc_of l.d)) l.j)
