use mathlib.Core.Path.{◌≡◌}
use Prim.Native.Nat.{◌+◌, ◌*◌, ◌≤◌}
use Rattle.lists.specs.Lists.{over}
use Rattle.grammar.specs.Tree.{child}
use Rattle.breach.specs.Breach.{statement_in, schema_in}
use Rattle.breach.specs.Listing.{key_item}
use Rattle.judge.specs.Window.{WroteItems}
use Rattle.judge.proofs.keys.map_items.Given as goal

abbrev pub invariant-loop-k : goal.invariant-loop-k
invariant-loop-k l = (l.k ≤ l.pairs) × ((l.at ≡ child (statement_in l.s) l.map (2 * l.k)) × ((l.tallied.count ≤ l.initial.tallied.count + l.at) × WroteItems (over (key_item (statement_in l.s) (schema_in l.d) l.i) 0 l.k) l.initial.tallied l.initial.list l.tallied l.list))
