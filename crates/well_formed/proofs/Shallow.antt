-- A schema never draws 7, since no place in it is deeper than 3: `schema-shallow`, and of any bytes `schema-never-7`.
use mathlib.Core.Bool.{Bool, true, false}
use mathlib.Core.Path.{◌≡◌, refl, ap}
use mathlib.Core.List.{List, [], ◌∷◌}
use Prim.Native.Nat.{ℕ, zero, suc, ◌+◌, ◌≤◌}
use native.Mathlib.Omega.{arith}
use borrow.Author.Tests.{le-leb}
use lib.ListN.{length}
use lib.Dec.{leb, ltb}
use Rattle.lists.specs.Lists.{pick, table, first, any_of, is_one}
use Rattle.lists.proofs.Tests.{never, both_true}
use Rattle.frame.specs.Limits.{max_depth}
use Rattle.frame.specs.Doc.{Doc, doc_of, kind_of, value_of}
use Rattle.frame.specs.Sheet.{frame_fault, fault}
use Rattle.frame.specs.declared.Fault.{Fault}
use Rattle.frame.proofs.Numbered.{past_first, before-second, frame-numbered}
use Rattle.rules.specs.declared.Place.{Place}
use Rattle.rules.specs.declared.Place.TheVariants.{Name, WholeSchema, Declaration, LabelItem, RelTypeItem, PropertyType}
use Rattle.rules.specs.Rules.{takes, rules, opens, many}
use Rattle.rules.proofs.Rows.{taken-by}
use Rattle.grammar.specs.Machine.{Want, want, opened, allowed, judged, after, run, left_over, grammar_fault}
use Rattle.grammar.specs.Tree.{tree_of}
use Rattle.std.proofs.lemmas.Option.{same_Some}
use Rattle.schema.specs.Declarations.{declared_fault, schema_fault}
use Rattle.schema.specs.Effect.{refusal, writes, unless_refused, after_schema, read_schema}
use Rattle.schema.proofs.Refusals.{declared-numbered}
use Rattle.std.specs.Prelude.{Option, Some, None, Result, Ok, Err}

-- the places of a schema, with the depths that they may have
data InSchema : Place → ℕ → Type 0 where
  whole : InSchema WholeSchema 0
  declaration : InSchema Declaration 1
  label_item : InSchema LabelItem 2
  rel_type_item : InSchema RelTypeItem 2
  name : (n : ℕ) → n ≤ 3 → InSchema Name n
  property_type : (n : ℕ) → n ≤ 3 → InSchema PropertyType n

at-most-three : {p : Place} {n : ℕ} → InSchema p n → n ≤ 3
at-most-three whole = omega arith
at-most-three declaration = omega arith
at-most-three label_item = omega arith
at-most-three rel_type_item = omega arith
at-most-three (name n h) = h
at-most-three (property_type n h) = h

-- places at one depth, and places that wait, all of a schema
abbrev AllAt : ℕ → List Place → Type 0
AllAt n [] = Unit {0}
AllAt n (p ∷ ps) = InSchema p n × AllAt n ps

abbrev All : List Want → Type 0
All [] = Unit {0}
All (w ∷ ws) = InSchema w.place w.depth × All ws

all-many : (n m : ℕ) (p : Place) → InSchema p n → AllAt n (many m p [])
unfolding many
all-many n zero p h = tt
all-many n (suc m) p h = (h, all-many n m p h)

all-opened : (n : ℕ) (ps : List Place) (ws : List Want) → AllAt n ps → All ws → All (opened n ps ws)
unfolding opened
all-opened n [] ws h g = g
all-opened n (p ∷ ps) ws h g = (h.0, all-opened n ps ws h.1 g)

-- what a token opens that stands in one of these places
opens-all : {p : Place} {n : ℕ} (k v : ℕ) → InSchema p n → is_one (takes p) k ≡ true → AllAt (n + 1) (opens k v)
unfolding takes table opens rules first any_of
opens-all k v whole h =
    taken-by (λ (j : ℕ). AllAt 1 (opens j v)) (takes WholeSchema) k h (all-many 1 v Declaration declaration, tt)
opens-all k v declaration h =
    let a : InSchema Name 2 = name 2 (omega arith) in
    let b : InSchema PropertyType 2 = property_type 2 (omega arith) in
    taken-by (λ (j : ℕ). AllAt 2 (opens j v)) (takes Declaration) k h (
      (a, all-many 2 v LabelItem label_item),
      (
        (a, all-many 2 v RelTypeItem rel_type_item),
        ((a, (b, all-many 2 v Name a)), ((a, tt), ((a, tt), ((a, (a, tt)), tt)))),
      ),
    )
opens-all k v label_item h =
    let a : InSchema Name 3 = name 3 (omega arith) in
    let b : InSchema PropertyType 3 = property_type 3 (omega arith) in
    taken-by (λ (j : ℕ). AllAt 3 (opens j v)) (takes LabelItem) k h ((a, (b, tt)), (all-many 3 v Name a, tt))
opens-all k v rel_type_item h =
    let a : InSchema Name 3 = name 3 (omega arith) in
    let b : InSchema PropertyType 3 = property_type 3 (omega arith) in
    taken-by (λ (j : ℕ). AllAt 3 (opens j v)) (takes RelTypeItem) k h
    ((a, (b, tt)), (all-many 3 v Name a, ((a, tt), ((a, tt), tt))))
opens-all k v (name n b) h = taken-by (λ (j : ℕ). AllAt (n + 1) (opens j v)) (takes Name) k h (omega arith)
opens-all k v (property_type n b) h =
    taken-by (λ (j : ℕ). AllAt (n + 1) (opens j v)) (takes PropertyType) k h (omega arith)

-- ---- a run over such places does not refuse with 7
-- a token's judgement that is 6 or none, and what comes after
not-seven : (a b : Bool) (i k : ℕ) (r : Result ℕ Fault) → b ≡ true → (a ≡ true → r ≡ Err (fault 7 k) → ⊥)
    → after (pick a (pick b None (Some (fault 7 i))) (Some (fault 6 i))) r ≡ Err (fault 7 k) → ⊥
not-seven true true i k r e g h = g refl h
not-seven true false i k r e g h = never e
not-seven false b i k r e g h = let z : fault 7 k ≡ fault 6 i = cc in omega (arith, ap (λ (u : Fault). u.number) z)

run-shallow : (d : Doc) (left : ℕ) (ws : List Want) (i k : ℕ) → All ws → run d left ws i ≡ Err (fault 7 k) → ⊥
unfolding run judged allowed
run-shallow d zero [] i k a h = let z : ◌≡◌ {A = ℕ} 0 1 = cc in omega arith
run-shallow d zero (w ∷ ws) i k a h = let z : fault 7 k ≡ fault 8 i = cc in omega (arith, ap (λ (u : Fault). u.number) z)
run-shallow d (suc left) [] i k a h = let z : ◌≡◌ {A = ℕ} 0 1 = cc in omega arith
run-shallow d (suc left) (w ∷ ws) i k a h =
    let next = opened (w.depth + 1) (opens (kind_of d i) (value_of d i)) ws in
    not-seven (allowed d w.place i) (leb w.depth max_depth) i k (run d left next (suc i))
    (le-leb w.depth max_depth (omega (arith, at-most-three a.0)))
    (λ e. run-shallow d left next (suc i) k
    (all-opened (w.depth + 1) (opens (kind_of d i) (value_of d i)) ws
    (opens-all (kind_of d i) (value_of d i) a.0 (both_true (is_one (takes w.place) (kind_of d i)) _ e).0) a.1))
    h

over-is-nine : (b : Bool) (i k : ℕ) → pick b (Some (fault 9 k)) None ≡ Some (fault 7 i) → ⊥
over-is-nine true i k h = omega (arith, ap (λ (u : Fault). u.number) (same_Some _ _ h))
over-is-nine false i k h = let z : ◌≡◌ {A = ℕ} 0 1 = cc in omega arith

seven-is-refused : (n i : ℕ) (r : Result ℕ Fault) → left_over n r ≡ Some (fault 7 i) → r ≡ Err (fault 7 i)
seven-is-refused n i (Ok k) h = absurd (over-is-nine (ltb k n) i k h)
seven-is-refused n i (Err u) h = cc

-- The tokens of a schema, whatever they are, have no fault with 7
pub schema-shallow : (d : Doc) (i : ℕ) → grammar_fault WholeSchema d ≡ Some (fault 7 i) → ⊥
unfolding grammar_fault
schema-shallow d i h =
    run-shallow d (length d.tokens) (want WholeSchema 0 ∷ []) 0 i (whole, tt)
    (seven-is-refused (length d.tokens) i _ h)

-- No schema sheet is refused with 7, whatever its bytes
pub schema-never-7 : (s : List ℕ) (i : ℕ) → schema_fault s ≡ Some (fault 7 i) → ⊥
unfolding schema_fault
schema-never-7 s i e =
    let a = past_first (frame_fault s) _ (frame-numbered s) (omega arith) e in
    schema-shallow (doc_of s) i
    (before-second (grammar_fault WholeSchema (doc_of s)) (declared_fault (tree_of (doc_of s)))
    (declared-numbered (tree_of (doc_of s))) (omega arith) a.1)

refused-at : (x : Option Fault) (n k i : ℕ) → unless_refused 2 x (writes 0 []) ≡ refusal n k i → x ≡ Some (fault n i)
refused-at None n k i e = absurd (let z : ◌≡◌ {A = ℕ} 0 1 = cc in omega arith)
refused-at (Some u) n k i e =
    let h : u.number ≡ n = cc in
    let g : u.place ≡ i = cc in
    rw (← h, ← g)

-- read_schema never refuses with 7, whatever bytes it is lent
pub read-schema-never-7 : (s : List ℕ) (sheet i : ℕ) → read_schema s ≡ refusal 7 sheet i → ⊥
unfolding after_schema
read-schema-never-7 s sheet i e = schema-never-7 s i (refused-at (schema_fault s) 7 sheet i e)
