use Prim.Native.Nat.{◌+◌, ◌*◌, ◌-◌}
use Rattle.grammar.specs.Inner.{read_of}
use Rattle.grammar.proofs.Laws.{rest, Reading}
use mathlib.Core.List.{[]}
use Rattle.frame.specs.Doc.{doc_of}
use Rattle.rules.specs.Rules.{many, pairs}
use Rattle.grammar.specs.Machine.{opened}
use Rattle.rules.specs.declared.Place.TheVariants.{Expr}
use Rattle.grammar.proofs.+children_compound_element_expression_expressions_item_many_of_one_other_pairs_of_part_pattern.Given as goal

abbrev pub decreases-children : goal.decreases-children
decreases-children l = 8 * (l.f.tokens - l.at)

abbrev pub decreases-compound : goal.decreases-compound
decreases-compound l = 8 * (l.f.tokens - l.at) + 2

abbrev pub decreases-element : goal.decreases-element
decreases-element l = 8 * (l.f.tokens - l.at) + 2

abbrev pub decreases-expression : goal.decreases-expression
decreases-expression l = 8 * (l.f.tokens - l.at) + 3

abbrev pub decreases-expressions : goal.decreases-expressions
decreases-expressions l = 8 * rest l.f.tokens (read_of l.r) + 4

abbrev pub decreases-item : goal.decreases-item
decreases-item l = 8 * (l.f.tokens - l.at) + 2

abbrev pub decreases-many_of : goal.decreases-many_of
decreases-many_of l = 8 * rest l.f.tokens (read_of l.r) + 5

abbrev pub decreases-one : goal.decreases-one
decreases-one l = 8 * (l.f.tokens - l.at) + 4

abbrev pub decreases-other : goal.decreases-other
decreases-other l = 8 * (l.f.tokens - l.at) + 1

abbrev pub decreases-pairs_of : goal.decreases-pairs_of
decreases-pairs_of l = 8 * rest l.f.tokens (read_of l.r) + 5

abbrev pub decreases-part : goal.decreases-part
decreases-part l = 8 * (l.f.tokens - l.at) + 2

abbrev pub decreases-pattern : goal.decreases-pattern
decreases-pattern l = 8 * (l.f.tokens - l.at) + 2

abbrev pub invariant-expressions-loop : goal.invariant-expressions-loop
invariant-expressions-loop l = Reading (doc_of l.s) l.r l.next
    (opened l.depth (many l.count Expr []) []) (opened l.depth (many (l.count - l.counter) Expr []) [])

abbrev pub invariant-many_of-loop : goal.invariant-many_of-loop
invariant-many_of-loop l = Reading (doc_of l.s) l.r l.next
    (opened l.depth (many l.count l.place []) []) (opened l.depth (many (l.count - l.counter) l.place []) [])

abbrev pub invariant-pairs_of-loop : goal.invariant-pairs_of-loop
invariant-pairs_of-loop l = Reading (doc_of l.s) l.r l.next
    (opened l.depth (pairs l.count []) []) (opened l.depth (pairs (l.count - l.counter) []) [])
