use native.Mathlib.Omega.{arith}
use native.Mathlib.Numerals.{add-one-le}
use Rattle.grammar.proofs.Laws.{chain, resumes, rest-after, inside-stood, rest_below, resumes-at, starts, token-read, from-inside-next, begin, on, stop, done, one_more_lem, no_more, all-more, resume, rest-next, inside-next, read_next, read-refusal, stays, inside-sheet, refuses, entered, fault-is, one-pair, no-pair, all-pairs}
use Rattle.grammar.proofs.Below.{rule-goes, element-goes, children-goes}
use Rattle.grammar.proofs.Standing.{map_read, list_read, prop-read, element-enters, part-read, pattern-read}
use mathlib.Core.Path.{sym, ◌∙◌}
use mathlib.Core.List.{[]}
use Prim.Native.Nat.{◌≤◌}
use Rattle.grammar.proofs.+children_compound_element_expression_expressions_item_many_of_one_other_pairs_of_part_pattern.Goals as goal

-- The needs of `children`.
pub children-overflow_add-d : goal.children-overflow_add-d
children-overflow_add-d t c =
    omega (arith, c.requires.shallow)

pub children-overflow_add-at : goal.children-overflow_add-at
children-overflow_add-at t c =
    omega (arith, c.requires.inside, c.requires.sheet.few_tokens)

pub children-ends-a-requires : goal.children-ends-a-requires
children-ends-a-requires t c =
    record { sheet = c.requires.sheet; inside = add-one-le c.requires.inside }

pub children-names_of-b-requires : goal.children-names_of-b-requires
children-names_of-b-requires t c =
    resumes _ c.requires.sheet (add-one-le c.requires.inside) c.ends-a.ensures

pub children-pairs_of-c-requires : goal.children-pairs_of-c-requires
children-pairs_of-c-requires t c =
    let h = add-one-le c.requires.inside in
    let e = chain _ _ _ _ c.ends-a.ensures c.names_of-b.ensures in
    (omega (arith, rest-after _ c.requires.sheet h e, c.decreases, c.requires.inside), resumes _ c.requires.sheet h e)

pub children-many_of-e-requires : goal.children-many_of-e-requires
children-many_of-e-requires t c =
    let h = add-one-le c.requires.inside in
    let e = chain _ _ _ _ (chain _ _ _ _ c.ends-a.ensures c.names_of-b.ensures) c.pairs_of-c.ensures in
    (omega (arith, rest-after _ c.requires.sheet h e, c.decreases, c.requires.inside), resumes _ c.requires.sheet h e)

pub children-many_of-requires : goal.children-many_of-requires
children-many_of-requires t c =
    let h = add-one-le c.requires.inside in
    let e = chain _ _ _ _ (chain _ _ _ _ (chain _ _ _ _ c.ends-a.ensures c.names_of-b.ensures) c.pairs_of-c.ensures) c.many_of-e.ensures in
    (omega (arith, rest-after _ c.requires.sheet h e, c.decreases, c.requires.inside), resumes _ c.requires.sheet h e)

pub children-returns : goal.children-returns
children-returns t c =
    rule-goes _ _ _ _ _ _ c.kind.ensures c.value.ensures c.rule_of-x.ensures c.requires.valued
    (chain _ _ _ _ (chain _ _ _ _ (chain _ _ _ _ (chain _ _ _ _ c.ends-a.ensures c.names_of-b.ensures) c.pairs_of-c.ensures) c.many_of-e.ensures) c.many_of.ensures)

-- The needs of `compound`.
pub compound-stands-requires : goal.compound-stands-requires
compound-stands-requires t c =
    c.requires.sheet

pub compound-overflow_add-at : goal.compound-overflow_add-at
compound-overflow_add-at t c =
    omega (arith, (c.stands.ensures c.if-stands.true).shallow, c.requires.inside, c.requires.sheet.few_tokens)

pub compound-overflow_add-depth : goal.compound-overflow_add-depth
compound-overflow_add-depth t c =
    omega (arith, (c.stands.ensures c.if-stands.true).shallow, c.requires.inside, c.requires.sheet.few_tokens)

pub compound-pairs_of-requires : goal.compound-pairs_of-requires
compound-pairs_of-requires t c =
    let h = inside-stood c.requires.sheet (c.stands.ensures c.if-stands.true) in
    (omega (arith, c.decreases, rest_below c.requires.sheet h), resumes-at c.requires.sheet (add-one-le h))

pub compound-returns-then-stands : goal.compound-returns-then-stands
compound-returns-then-stands t c =
    let i = (c.stands.ensures c.if-stands.true) in
    map_read _ c.value.ensures i (omega (arith, c.value.type_inv)) (starts c.requires.sheet (add-one-le (inside-stood c.requires.sheet i)) _ c.pairs_of.ensures)

pub compound-stands-requires-2 : goal.compound-stands-requires-2
compound-stands-requires-2 t c =
    c.requires.sheet

pub compound-overflow_add-at-then-stands-2 : goal.compound-overflow_add-at-then-stands-2
compound-overflow_add-at-then-stands-2 t c =
    omega (arith, (c.stands-2.ensures c.if-stands-2.true).shallow, c.requires.inside, c.requires.sheet.few_tokens)

pub compound-overflow_add-depth-then-stands-2 : goal.compound-overflow_add-depth-then-stands-2
compound-overflow_add-depth-then-stands-2 t c =
    omega (arith, (c.stands-2.ensures c.if-stands-2.true).shallow, c.requires.inside, c.requires.sheet.few_tokens)

pub compound-expressions-requires : goal.compound-expressions-requires
compound-expressions-requires t c =
    let h = inside-stood c.requires.sheet (c.stands-2.ensures c.if-stands-2.true) in
    (omega (arith, c.decreases, rest_below c.requires.sheet h), resumes-at c.requires.sheet (add-one-le h))

pub compound-returns-then-stands-2 : goal.compound-returns-then-stands-2
compound-returns-then-stands-2 t c =
    let i = (c.stands-2.ensures c.if-stands-2.true) in
    list_read _ c.value-then-stands-2.ensures i (omega (arith, c.value-then-stands-2.type_inv)) (starts c.requires.sheet (add-one-le (inside-stood c.requires.sheet i)) _ c.expressions.ensures)

pub compound-is_prop-requires : goal.compound-is_prop-requires
compound-is_prop-requires t c =
    c.requires.sheet

pub compound-overflow_add-at-then-is_prop : goal.compound-overflow_add-at-then-is_prop
compound-overflow_add-at-then-is_prop t c =
    omega (arith, (c.is_prop.ensures c.if-is_prop.true).0.shallow, c.requires.inside, c.requires.sheet.few_tokens)

pub compound-overflow_add-depth-then-is_prop : goal.compound-overflow_add-depth-then-is_prop
compound-overflow_add-depth-then-is_prop t c =
    omega (arith, (c.is_prop.ensures c.if-is_prop.true).0.shallow, c.requires.inside, c.requires.sheet.few_tokens)

pub compound-pairs_of-requires-then-is_prop : goal.compound-pairs_of-requires-then-is_prop
compound-pairs_of-requires-then-is_prop t c =
    let h = inside-stood c.requires.sheet (c.is_prop.ensures c.if-is_prop.true).0 in
    (omega (arith, c.decreases, rest_below c.requires.sheet h), resumes-at c.requires.sheet (add-one-le h))

pub compound-returns-then-is_prop : goal.compound-returns-then-is_prop
compound-returns-then-is_prop t c =
    let i = (c.is_prop.ensures c.if-is_prop.true) in
    prop-read 0 (sym i.1) i.0 (omega arith) (starts c.requires.sheet (add-one-le (inside-stood c.requires.sheet i.0)) _ c.pairs_of-then-is_prop.ensures)

pub compound-other-requires : goal.compound-other-requires
compound-other-requires t c =
    (omega (arith, c.decreases), c.requires)

pub compound-returns : goal.compound-returns
compound-returns t c =
    c.other.ensures

-- The needs of `element`.
pub element-stands-requires : goal.element-stands-requires
element-stands-requires t c =
    c.requires.sheet

pub element-other-requires : goal.element-other-requires
element-other-requires t c =
    (omega (arith, c.decreases), c.requires)

pub element-returns-then-not-stands : goal.element-returns-then-not-stands
element-returns-then-not-stands t c =
    c.other.ensures

pub element-overflow_add-d : goal.element-overflow_add-d
element-overflow_add-d t c =
    omega (arith, (c.stands.ensures c.if-not-stands.false).shallow)

pub element-overflow_add-at : goal.element-overflow_add-at
element-overflow_add-at t c =
    omega (arith, c.requires.inside, c.requires.sheet.few_tokens)

pub element-span-a-requires : goal.element-span-a-requires
element-span-a-requires t c =
    record { sheet = c.requires.sheet; inside = add-one-le (inside-stood c.requires.sheet (c.stands.ensures c.if-not-stands.false)) }

pub element-names_of-b-requires : goal.element-names_of-b-requires
element-names_of-b-requires t c =
    resumes _ c.requires.sheet (add-one-le (inside-stood c.requires.sheet (c.stands.ensures c.if-not-stands.false))) c.span-a.ensures

pub element-expressions-requires : goal.element-expressions-requires
element-expressions-requires t c =
    let h = inside-stood c.requires.sheet (c.stands.ensures c.if-not-stands.false) in
    let e = chain _ _ _ _ c.span-a.ensures c.names_of-b.ensures in
    (omega (arith, rest-after _ c.requires.sheet (add-one-le h) e, c.decreases, h), resumes _ c.requires.sheet (add-one-le h) e)

pub element-returns : goal.element-returns
element-returns t c =
    element-goes _ c.value-value.ensures (element-enters _ (c.stands.ensures c.if-not-stands.false) c.value-value.ensures (omega (arith, c.value-value.type_inv)))
    (chain _ _ _ _ (chain _ _ _ _ c.span-a.ensures c.names_of-b.ensures) c.expressions.ensures)

-- The needs of `expression`.
pub expression-is_small-requires : goal.expression-is_small-requires
expression-is_small-requires t c =
    c.requires.sheet

pub expression-overflow_add-result : goal.expression-overflow_add-result
expression-overflow_add-result t c =
    omega (arith, c.requires.inside, c.requires.sheet.few_tokens)

pub expression-returns-then-is_small : goal.expression-returns-then-is_small
expression-returns-then-is_small t c =
    let e = c.is_small.ensures c.if-is_small.true in
    token-read c.requires.sheet (from-inside-next c.requires.sheet c.requires.inside _ e) ∙ e

pub expression-compound-requires : goal.expression-compound-requires
expression-compound-requires t c =
    (omega (arith, c.decreases), c.requires)

pub expression-returns : goal.expression-returns
expression-returns t c =
    c.compound.ensures

pub expressions-returns-then-r-ge-REFUSALS : goal.expressions-returns-then-r-ge-REFUSALS
expressions-returns-then-r-ge-REFUSALS t c =
    stays _ _ _ c.if-r-ge-REFUSALS.true

pub expressions-loop-init : goal.expressions-loop-init
expressions-loop-init t c =
    begin (all-more _ _ _) (omega (arith, inside-next c.requires.inside (read_next _ c.if-r-ge-REFUSALS.false), c.requires.sheet.tokens))

pub expressions-expression-q-requires : goal.expressions-expression-q-requires
expressions-expression-q-requires t c = (
  omega (arith, c.decreases, rest-next c.args.f.tokens (read_next _ c.if-r-ge-REFUSALS.false), c.loop.invariant.after),
  record { sheet = c.requires.sheet; inside = omega (arith, c.loop.invariant.inside, c.requires.sheet.tokens) },
)

pub expressions-returns-then-q-ge-REFUSALS : goal.expressions-returns-then-q-ge-REFUSALS
expressions-returns-then-q-ge-REFUSALS t c =
    resume _ _ (read_next _ c.if-r-ge-REFUSALS.false)
    (read-refusal _ c.if-q-ge-REFUSALS.true
    ∙ stop c.loop.invariant _ _ (one_more_lem _ _ _ _ c.loop-test.true) c.expression-q.ensures
    (read-refusal _ c.if-q-ge-REFUSALS.true))

pub expressions-loop-preserved : goal.expressions-loop-preserved
expressions-loop-preserved t c =
    on c.loop.invariant _ _ (one_more_lem _ _ _ _ c.loop-test.true) c.expression-q.ensures (read_next _ c.if-q-ge-REFUSALS.false)

pub expressions-returns : goal.expressions-returns
expressions-returns t c =
    resume _ _ (read_next _ c.if-r-ge-REFUSALS.false)
    (token-read c.requires.sheet (omega (arith, c.loop.invariant.inside, c.requires.sheet.tokens))
    ∙ done c.loop.invariant (no_more _ _ _ _ c.loop-test.false))

-- The needs of `item`.
pub item-is_property-requires : goal.item-is_property-requires
item-is_property-requires t c =
    c.requires.ready.sheet

pub item-overflow_add-result : goal.item-overflow_add-result
item-overflow_add-result t c =
    omega (arith, c.requires.ready.inside, c.requires.ready.sheet.few_tokens)

pub item-returns-then-is_property : goal.item-returns-then-is_property
item-returns-then-is_property t c =
    let e = c.is_property.ensures c.if-is_property.true _ c.requires.item in
    token-read c.requires.ready.sheet (from-inside-next c.requires.ready.sheet c.requires.ready.inside _ e) ∙ e

pub item-other-requires : goal.item-other-requires
item-other-requires t c =
    (omega (arith, c.decreases), c.requires.ready)

pub item-returns : goal.item-returns
item-returns t c =
    c.other.ensures

pub many_of-returns-then-r-ge-REFUSALS : goal.many_of-returns-then-r-ge-REFUSALS
many_of-returns-then-r-ge-REFUSALS t c =
    stays _ _ _ c.if-r-ge-REFUSALS.true

pub many_of-loop-init : goal.many_of-loop-init
many_of-loop-init t c =
    begin (all-more _ _ _) (omega (arith, inside-next c.requires.inside (read_next _ c.if-r-ge-REFUSALS.false), c.requires.sheet.tokens))

pub many_of-one-q-requires : goal.many_of-one-q-requires
many_of-one-q-requires t c = (
  omega (arith, c.decreases, rest-next c.args.f.tokens (read_next _ c.if-r-ge-REFUSALS.false), c.loop.invariant.after),
  record { sheet = c.requires.sheet; inside = omega (arith, c.loop.invariant.inside, c.requires.sheet.tokens) },
)

pub many_of-returns-then-q-ge-REFUSALS : goal.many_of-returns-then-q-ge-REFUSALS
many_of-returns-then-q-ge-REFUSALS t c =
    resume _ _ (read_next _ c.if-r-ge-REFUSALS.false)
    (read-refusal _ c.if-q-ge-REFUSALS.true
    ∙ stop c.loop.invariant _ _ (one_more_lem _ _ _ _ c.loop-test.true) c.one-q.ensures
    (read-refusal _ c.if-q-ge-REFUSALS.true))

pub many_of-loop-preserved : goal.many_of-loop-preserved
many_of-loop-preserved t c =
    on c.loop.invariant _ _ (one_more_lem _ _ _ _ c.loop-test.true) c.one-q.ensures (read_next _ c.if-q-ge-REFUSALS.false)

pub many_of-returns : goal.many_of-returns
many_of-returns t c =
    resume _ _ (read_next _ c.if-r-ge-REFUSALS.false)
    (token-read c.requires.sheet (omega (arith, c.loop.invariant.inside, c.requires.sheet.tokens))
    ∙ done c.loop.invariant (no_more _ _ _ _ c.loop-test.false))

pub one-expression-requires : goal.one-expression-requires
one-expression-requires t c =
    (omega (arith, c.decreases), c.requires)

pub one-pattern-requires : goal.one-pattern-requires
one-pattern-requires t c =
    (omega (arith, c.decreases), c.requires)

pub one-part-requires : goal.one-part-requires
one-part-requires t c =
    (omega (arith, c.decreases), c.requires)

pub one-element-requires : goal.one-element-requires
one-element-requires t c =
    (omega (arith, c.decreases), c.requires)

pub one-item-requires : goal.one-item-requires
one-item-requires t c =
    (omega (arith, c.decreases), (c.requires, c.in-LabelItem.is))

pub one-other-requires : goal.one-other-requires
one-other-requires t c =
    (omega (arith, c.decreases), c.requires)

pub one-returns-in-Expr : goal.one-returns-in-Expr
one-returns-in-Expr t c =
    rw c.in-Expr.is c.expression.ensures

pub one-returns-in-Pattern : goal.one-returns-in-Pattern
one-returns-in-Pattern t c =
    rw c.in-Pattern.is c.pattern.ensures

pub one-returns-in-Part : goal.one-returns-in-Part
one-returns-in-Part t c =
    rw c.in-Part.is c.part.ensures

pub one-returns-in-Element : goal.one-returns-in-Element
one-returns-in-Element t c =
    rw c.in-Element.is c.element.ensures

pub one-returns-in-LabelItem : goal.one-returns-in-LabelItem
one-returns-in-LabelItem t c =
    c.item.ensures

pub one-returns-in_default : goal.one-returns-in_default
one-returns-in_default t c =
    c.other.ensures

-- The needs of `other`.
pub other-judge-requires : goal.other-judge-requires
other-judge-requires t c =
    c.requires.sheet

pub other-returns-in-Some : goal.other-returns-in-Some
other-returns-in-Some t c =
    c.refused.ensures ∙ refuses _ _ _ _ [] c.judge.ensures c.in-Some.is

pub other-children-requires : goal.other-children-requires
other-children-requires t c =
    let i = entered _ _ _ _ c.judge.ensures c.in_default.is in (
      omega (arith, c.decreases),
      record { sheet = c.requires.sheet; inside = inside-sheet c.requires.sheet i; valued = i.valued; shallow = i.shallow },
    )

pub other-returns : goal.other-returns
other-returns t c =
    children-goes (entered _ _ _ _ c.judge.ensures c.in_default.is) c.children.ensures

pub pairs_of-returns-then-r-ge-REFUSALS : goal.pairs_of-returns-then-r-ge-REFUSALS
pairs_of-returns-then-r-ge-REFUSALS t c =
    stays _ _ _ c.if-r-ge-REFUSALS.true

pub pairs_of-loop-init : goal.pairs_of-loop-init
pairs_of-loop-init t c =
    begin (all-pairs _ _) (omega (arith, inside-next c.requires.inside (read_next _ c.if-r-ge-REFUSALS.false), c.requires.sheet.tokens))

pub pairs_of-names_of-k-requires : goal.pairs_of-names_of-k-requires
pairs_of-names_of-k-requires t c =
    resumes-at c.requires.sheet (omega (arith, c.loop.invariant.inside, c.requires.sheet.tokens))

pub pairs_of-expressions-q-requires : goal.pairs_of-expressions-q-requires
pairs_of-expressions-q-requires t c =
    let h : c.loop.next ≤ c.args.f.tokens = omega (arith, c.loop.invariant.inside, c.requires.sheet.tokens) in
    let e = starts c.requires.sheet h _ c.names_of-k.ensures in (
      omega (arith, rest-after _ c.requires.sheet h e, c.decreases, rest-next c.args.f.tokens (read_next _ c.if-r-ge-REFUSALS.false), c.loop.invariant.after),
      resumes _ c.requires.sheet h e,
    )

pub pairs_of-returns-then-q-ge-REFUSALS : goal.pairs_of-returns-then-q-ge-REFUSALS
pairs_of-returns-then-q-ge-REFUSALS t c =
    resume _ _ (read_next _ c.if-r-ge-REFUSALS.false)
    (read-refusal _ c.if-q-ge-REFUSALS.true
    ∙ stop c.loop.invariant _ _ (one-pair _ _ _ c.loop-test.true) (chain _ _ _ _ (starts c.requires.sheet (omega (arith, c.loop.invariant.inside, c.requires.sheet.tokens)) _ c.names_of-k.ensures) c.expressions-q.ensures)
    (read-refusal _ c.if-q-ge-REFUSALS.true))

pub pairs_of-loop-preserved : goal.pairs_of-loop-preserved
pairs_of-loop-preserved t c =
    on c.loop.invariant _ _ (one-pair _ _ _ c.loop-test.true) (chain _ _ _ _ (starts c.requires.sheet (omega (arith, c.loop.invariant.inside, c.requires.sheet.tokens)) _ c.names_of-k.ensures) c.expressions-q.ensures) (read_next _ c.if-q-ge-REFUSALS.false)

pub pairs_of-returns : goal.pairs_of-returns
pairs_of-returns t c =
    resume _ _ (read_next _ c.if-r-ge-REFUSALS.false)
    (token-read c.requires.sheet (omega (arith, c.loop.invariant.inside, c.requires.sheet.tokens))
    ∙ done c.loop.invariant (no-pair _ _ _ c.loop-test.false))

-- The needs of `part`.
pub part-stands-requires : goal.part-stands-requires
part-stands-requires t c =
    c.requires.sheet

pub part-overflow_add-at : goal.part-overflow_add-at
part-overflow_add-at t c =
    omega (arith, (c.stands.ensures c.if-stands.true).shallow, c.requires.inside, c.requires.sheet.few_tokens)

pub part-overflow_add-depth : goal.part-overflow_add-depth
part-overflow_add-depth t c =
    omega (arith, (c.stands.ensures c.if-stands.true).shallow, c.requires.inside, c.requires.sheet.few_tokens)

pub part-many_of-requires : goal.part-many_of-requires
part-many_of-requires t c =
    let h = inside-stood c.requires.sheet (c.stands.ensures c.if-stands.true) in
    (omega (arith, c.decreases, rest_below c.requires.sheet h), resumes-at c.requires.sheet (add-one-le h))

pub part-returns-then-stands : goal.part-returns-then-stands
part-returns-then-stands t c =
    let i = (c.stands.ensures c.if-stands.true) in
    part-read _ c.value.ensures i (omega (arith, c.value.type_inv)) (starts c.requires.sheet (add-one-le (inside-stood c.requires.sheet i)) _ c.many_of.ensures)

pub part-other-requires : goal.part-other-requires
part-other-requires t c =
    (omega (arith, c.decreases), c.requires)

pub part-returns : goal.part-returns
part-returns t c =
    c.other.ensures

-- The needs of `pattern`.
pub pattern-stands-requires : goal.pattern-stands-requires
pattern-stands-requires t c =
    c.requires.sheet

pub pattern-overflow_add-at : goal.pattern-overflow_add-at
pattern-overflow_add-at t c =
    omega (arith, (c.stands.ensures c.if-stands.true).shallow, c.requires.inside, c.requires.sheet.few_tokens)

pub pattern-overflow_add-depth : goal.pattern-overflow_add-depth
pattern-overflow_add-depth t c =
    omega (arith, (c.stands.ensures c.if-stands.true).shallow, c.requires.inside, c.requires.sheet.few_tokens)

pub pattern-many_of-requires : goal.pattern-many_of-requires
pattern-many_of-requires t c =
    let h = inside-stood c.requires.sheet (c.stands.ensures c.if-stands.true) in
    (omega (arith, c.decreases, rest_below c.requires.sheet h), resumes-at c.requires.sheet (add-one-le h))

pub pattern-returns-then-stands : goal.pattern-returns-then-stands
pattern-returns-then-stands t c =
    let i = (c.stands.ensures c.if-stands.true) in
    pattern-read _ c.value.ensures i (omega (arith, c.value.type_inv)) (starts c.requires.sheet (add-one-le (inside-stood c.requires.sheet i)) _ c.many_of.ensures)

pub pattern-other-requires : goal.pattern-other-requires
pattern-other-requires t c =
    (omega (arith, c.decreases), c.requires)

pub pattern-returns : goal.pattern-returns
pattern-returns t c =
    c.other.ensures

pub other-refused-requires : goal.other-refused-requires
other-refused-requires t c =
    let w = fault-is _ _ _ _ c.judge.ensures c.in-Some.is in
    record { number_nonzero = (w.0, w.1.0); place_lt_refusals = omega (arith, w.1.1, c.requires.inside, c.requires.sheet.few_tokens) }
