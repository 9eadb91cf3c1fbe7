use Prim.Native.Nat.{◌-◌, ◌≤◌}
use mathlib.Core.Path.{◌≡◌}
use Rattle.frame.specs.Doc.{doc_of}
use Rattle.grammar.specs.Tree.{tree_of}
use Rattle.provider.specs.Scanned.{next_decl, decl_end}
use Rattle.provider.proofs.decl_end.Given as goal

abbrev pub invariant-loop-j : goal.invariant-loop-j
invariant-loop-j l = (l.j ≤ l.f.tokens) × (next_decl (tree_of (doc_of l.s)) (l.f.tokens - l.j) l.j ≡ decl_end (tree_of (doc_of l.s)) l.i)
