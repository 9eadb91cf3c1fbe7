-- A clause, and all clauses of a statement.
use mathlib.Core.Bool.{true, false, not}
use mathlib.Core.Logic.{inr}
use mathlib.Core.Path.{◌≡◌, refl, sym, ap, ◌∙◌, subst}
use mathlib.Core.List.{List, [], ◌++◌, append-nil, map}
use Prim.Native.Nat.{ℕ, suc, ◌+◌, ◌≤◌, ◌<◌}
use native.Mathlib.Numerals.{add-one}
use native.Mathlib.Omega.{arith}
use borrow.Author.Tests.{not-true}
use lib.ListN.{length, length-append}
use Rattle.lists.specs.Lists.{table, any_of, all_of, over}
use Rattle.lists.proofs.Laws.{over_none, over-more, over-one, over-join}
use Rattle.frame.specs.Doc.{doc_of, kind_of, value_of}
use Rattle.frame.specs.declared.Sizes.{Sizes}
use Rattle.rules.specs.Rules.{takes, arity}
use Rattle.grammar.specs.Tree.{Tree, past, end, child, parent}
use Rattle.grammar.proofs.Places.{past-none, past-suc, end-node, end-gt, parent-child}
use Rattle.grammar.proofs.Formed.{Rooted, statement-rooted, statement-counts, arity-at}
use Rattle.grammar.proofs.Skipping.{clause-count}
use Rattle.grammar.proofs.Flat.{tree-kind, tree-value}
use Rattle.provider.specs.Schema.{Schema}
use Rattle.breach.specs.Breach.{Item, is_element, statement_in, schema_in}
use Rattle.breach.specs.Listing.{early, late, clause_items, listed}
use Rattle.judge.specs.Window.{in_clause, WroteItems, ToldItems}
use Rattle.judge.specs.declared.Tally.{Tally}
use Rattle.judge.specs.Judging.{Lent}
use Rattle.breach.proofs.Shapes.{shaped}
use Rattle.breach.proofs.Few.{list-few}
use Rattle.breach.proofs.Whole.{in-clause}
use Rattle.judge.proofs.Wrote.{wrote-join, wrote_as, numbered, told_none, told-join, told-as}
use Rattle.walk.specs.declared.Step.{Step}
use Rattle.walk.specs.Walk.{said, holds_elements, TreeReady, BelowReady, Own, WroteBelow, Walked, Cleared, ClauseReady}
use Rattle.walk.proofs.Merges.{only, merge-opens, child-inside, child-kind, clause-only, clause-silent}
use Rattle.walk.proofs.Steps.{size_is, at-inside, room-below, whole-tree, said-early, said-late, late-none}

module _ {s d : List ℕ} {sizes : Sizes} {reg : List ℕ} (z : Lent s d sizes reg) where
  some : 0 < length (doc_of s).tokens
  some = omega (arith, z.sheet)

  pub rooted : Rooted 90 (statement_in s)
  rooted = statement-rooted (doc_of s) some z.read

  pub root-value : value_of (doc_of s) 0 ≡ (statement_in s).value 0
  root-value = sym (tree-value (doc_of s) 0 (λ e. let k = sym (tree-kind (doc_of s) 0) ∙ rooted.root in omega arith))

  pub few : length (listed (statement_in s) (schema_in d)) ≤ sizes.statement.tokens
  few = let h = list-few (statement_in s) (schema_in d) (shaped (doc_of s) some z.read) in omega (arith, h, size_is z)

  root-arity : arity ((statement_in s).kind 0) ((statement_in s).value 0) ≡ (statement_in s).value 0
  root-arity = ap (λ (k : ℕ). arity k ((statement_in s).value 0)) rooted.root ∙ statement-counts
      ((statement_in s).value 0)

  module _ (k at : ℕ) (h : k < value_of (doc_of s) 0) (e : at ≡ past (statement_in s) k 1) where
    in-root : k < arity ((statement_in s).kind 0) ((statement_in s).value 0)
    in-root = omega (arith, root-arity, root-value)

    pub clause-here : at < sizes.statement.tokens
    clause-here = at-inside z 0 k at (omega (arith, z.sheet)) in-root e

    pub clause-parent : parent (statement_in s) at ≡ 0
    clause-parent =
        ap (parent (statement_in s)) e
        ∙ parent-child (statement_in s) 0 k (omega (arith, size_is z, z.sheet)) in-root
        (subst (λ (j : ℕ). j < (statement_in s).size) e (omega (arith, size_is z, clause-here)))

    pub clause-next : end (statement_in s) at ≡ past (statement_in s) (k + 1) 1
    clause-next = sym (ap (λ (j : ℕ). past (statement_in s) j 1) (add-one k) ∙ past-suc (statement_in s) k 1 ∙ ap
        (end (statement_in s)) (sym e))

-- ---- the two passes over a clause
module _ (t : Tree) (sc : Schema) (i : ℕ) where
  clause-parts : clause_items t sc i ≡ over (said false t sc) i (end t i) ++ over (said true t sc) i (end t i)
  unfolding clause_items said
  clause-parts = refl

  early-alone : over (late t sc) i (end t i) ≡ [] → over (said false t sc) i (end t i) ≡ clause_items t sc i
  unfolding clause_items said
  early-alone e = rw e (sym (append-nil (over (early t sc) i (end t i))))

  parts-length : length (clause_items t sc i) ≡ length (over (said false t sc) i (end t i)) + length
      (over (said true t sc) i (end t i))
  parts-length = ap length clause-parts ∙ length-append (over (said false t sc) i (end t i))
      (over (said true t sc) i (end t i))

module _ (s d : List ℕ) (sizes : Sizes) {reg : List ℕ} (i : ℕ) (n : Tally) (y : ClauseReady s d sizes reg i n) where
  there : i < length (doc_of s).tokens
  there = omega (arith, y.here, y.lent.sheet.tokens)

  -- a clause is no element, no Pattern and no Part
  pub no_element : is_element (kind_of (doc_of s) i) ≡ false
  unfolding only all_of takes any_of table
  no_element = not-true _ (clause-only (doc_of s) y.lent.read i there (λ k. not (is_element k)) refl y.after
      y.clause)

  pub no-pattern : holds_elements (kind_of (doc_of s) i) ≡ false
  unfolding only all_of takes any_of table
  no-pattern = not-true _ (clause-only (doc_of s) y.lent.read i there (λ k. not (holds_elements k)) refl y.after
      y.clause)

  pub early-ready : TreeReady false s d sizes reg i n
  early-ready = record {
    lent = y.lent;
    here = y.here;
    room = omega (arith, y.room, parts-length (statement_in s) (schema_in d) i);
  }

  -- the first pass: its own items, and those below it
  module _ {l l₁ : List ℕ} {c : Tally} (w : WroteItems (early (statement_in s) (schema_in d) i) n l c l₁) where
    own : Own false (statement_in s) (schema_in d) i n l c l₁
    own = wrote_as (said-early false (statement_in s) (schema_in d) i refl) w

    pub below-ready : BelowReady false s d sizes reg i c
    below-ready = room-below false s d sizes i n l early-ready own

    pub first-pass : {a : Step} {l₂ : List ℕ} → WroteBelow false (statement_in s) (schema_in d) i c l₁ a l₂
        → Walked false (statement_in s) (schema_in d) i n l a l₂
    first-pass = whole-tree false s d sizes i n l early-ready own

  module _ {l l₁ : List ℕ} {a : Step} (p : Walked false (statement_in s) (schema_in d) i n l a l₁) where
    -- the first pass is all, unless the clause is a Merge
    pub one-pass : {k : ℕ} → k ≡ kind_of (doc_of s) i → (k ≡ 72 → ⊥) → Cleared (statement_in s) (schema_in d) i n l a l₁
    one-pass e k =
        let o = clause-silent (doc_of s) y.lent.read i there (schema_in d) y.after y.clause (λ g. k (e ∙ g)) in
        record { next = p.next; wrote = wrote_as (early-alone (statement_in s) (schema_in d) i o) p.wrote }

    -- a Merge's later pass is over its Pattern
    module _ {k : ℕ} (e : k ≡ kind_of (doc_of s) i) (h : k ≡ 72) where
      one-child : arity ((statement_in s).kind i) ((statement_in s).value i) ≡ 1
      one-child = arity-at (doc_of s) i ∙ sym (clause-count (kind_of (doc_of s) i) (value_of (doc_of s) i) (inr (sym e ∙ h)))

      first-child : child (statement_in s) i 0 ≡ i + 1
      first-child = past-none (statement_in s) (suc i) ∙ sym (add-one i)

      ends-alike : end (statement_in s) (i + 1) ≡ end (statement_in s) i
      ends-alike =
          ap (end (statement_in s)) (add-one i) ∙ sym (ap (λ (c : ℕ). past (statement_in s) c (suc i)) one-child) ∙ sym
          (end-node (statement_in s) i (omega (arith, y.here, size_is y.lent)))

      pub pattern-below : kind_of (doc_of s) (i + 1) ≡ 60
      pattern-below =
          ap (kind_of (doc_of s)) (sym first-child)
          ∙ child-kind (doc_of s) y.lent.read i 0 there (omega (arith, one-child)) 60 (merge-opens _ _ (sym e ∙ h))

      late_below : over (said true (statement_in s) (schema_in d)) (i + 1) (end (statement_in s) (i + 1))
          ≡ over (said true (statement_in s) (schema_in d)) i (end (statement_in s) i)
      late_below =
          ap (over (said true (statement_in s) (schema_in d)) (i + 1)) ends-alike ∙ sym
          (over-more (said true (statement_in s) (schema_in d)) i (end (statement_in s) i)
          (end-gt (statement_in s) i (omega (arith, y.here, size_is y.lent)))
          ∙ ap (λ (xs : List Item). xs ++ over (said true (statement_in s) (schema_in d)) (i + 1) (end (statement_in s) i))
          (sym (late-none (statement_in s) (schema_in d) i (ap is_element (tree-kind (doc_of s) i) ∙ no_element)
          ∙ said-late true (statement_in s) (schema_in d) i refl)))

      pub late-ready : TreeReady true s d sizes reg (i + 1) a.tally
      late-ready = record {
        lent = y.lent;
        here = subst (λ (j : ℕ). j < sizes.statement.tokens) first-child
            (omega (
              arith,
              child-inside (doc_of s) y.lent.read i 0 there (omega (arith, one-child)),
              y.lent.sheet.tokens,
            ));
        room = omega (
          arith,
          y.room,
          parts-length (statement_in s) (schema_in d) i,
          p.wrote.count,
          ap length late_below,
        );
      }

      pub both-passes : {r : Step} {l₂ : List ℕ} → Walked true (statement_in s) (schema_in d) (i + 1) a.tally l₁ r l₂
          → Cleared (statement_in s) (schema_in d) i n l r l₂
      both-passes q = record {
        next = q.next ∙ ends-alike;
        wrote = wrote_as (sym (clause-parts (statement_in s) (schema_in d) i))
            (wrote-join p.wrote (wrote_as late_below q.wrote));
      }

-- ---- clause after clause
module _ (s d : List ℕ) where
  abbrev pub items : ℕ → List Item
  items c = clause_items (statement_in s) (schema_in d) (child (statement_in s) 0 c)

  listed-is : listed (statement_in s) (schema_in d) ≡ over items 0 ((statement_in s).value 0)
  unfolding listed
  listed-is = refl

  -- before clause k: it is the next, and has its number; the items of those before it are told
  pub record Reached (from : ℕ) (l : List ℕ) (k at count : ℕ) (l' : List ℕ) : Type 0 where
    pub at_clause : at ≡ past (statement_in s) k 1
    pub behind : k < at
    pub told : ToldItems (over items 0 k) from l count l'

  module _ (sizes : Sizes) {reg : List ℕ} (z : Lent s d sizes reg) where
    -- of a statement that was read, the items of clause k have its number
    items-numbered : (k : ℕ) → k < value_of (doc_of s) 0 → map (in_clause k) (items k) ≡ items k
    items-numbered k h =
        numbered k (items k) (in-clause (statement_in s) (schema_in d) (rooted z) k (omega (arith, root-value z)))

    module _ {from k at count : ℕ} {l l₁ : List ℕ} (h : k < value_of (doc_of s) 0) (w : Reached from l k at count l₁) where
      pub clause-ready : ClauseReady s d sizes reg at (record { from = from; count = count; clause = k })
      clause-ready =
          let a = over-join items 0 k (k + 1) (omega arith) (omega arith) in
          let b = over-join items 0 (k + 1) ((statement_in s).value 0) (omega arith) (omega (arith, root-value z)) in
          let o : over items k (k + 1) ≡ items k = ap (over items k) (add-one k) ∙ over-one items k in
          let p : items k ≡ clause_items (statement_in s) (schema_in d) at = ap (clause_items (statement_in s) (schema_in d))
          (sym w.at_clause) in
          record {
            lent = z;
            here = clause-here z k at h w.at_clause;
            after = omega (arith, w.behind);
            clause = clause-parent z k at h w.at_clause;
            room = omega (
              arith,
              w.told.count,
              few z,
              z.sheet,
              ap length listed-is,
              ap length a,
              ap length b,
              ap length o,
              ap length p,
              length-append (over items 0 k) (over items k (k + 1)),
              length-append (over items 0 (k + 1)) (over items (k + 1) ((statement_in s).value 0)),
            );
          }

      -- the clause's number fits
      pub clause-few : k < 65535
      clause-few = omega (arith, w.behind, clause-here z k at h w.at_clause, z.sheet.few_tokens)

      pub clause-more : {l₂ : List ℕ} {r : Step}
          → Cleared (statement_in s) (schema_in d) at (record { from = from; count = count; clause = k }) l₁ r l₂
          → Reached from l (k + 1) r.next r.tally.count l₂
      clause-more {l₂} {r} q =
          let e = w.at_clause in
          let p : items k ≡ over items k (k + 1) = sym (ap (over items k) (add-one k) ∙ over-one items k) in
          let v = wrote_as (ap (clause_items (statement_in s) (schema_in d)) e) q.wrote in
          record {
            at_clause = q.next ∙ clause-next z k at h e;
            behind = omega (
              arith,
              w.behind,
              q.next,
              end-gt (statement_in s) at (omega (arith, clause-here z k at h e, size_is z)),
            );
            told = told-as (ap (λ (ys : List Item). over items 0 k ++ ys) p ∙ over-join items 0 k (k + 1) (omega arith) (omega arith))
                (told-join w.told v (items-numbered k h));
          }

    pub clauses-done : {from k at count : ℕ} {l l' : List ℕ} → k ≤ value_of (doc_of s) 0 → value_of (doc_of s) 0 ≤ k
        → Reached from l k at count l' → ToldItems (listed (statement_in s) (schema_in d)) from l count l'
    clauses-done {from} {k} p q w =
        let o : k ≡ (statement_in s).value 0 = omega (arith, root-value z) in
        told-as (ap (over items 0) o ∙ sym listed-is) w.told

  pub no-clause : {from : ℕ} {l : List ℕ} → Reached from l 0 1 0 l
  no-clause = record {
    at_clause = sym (past-none (statement_in s) 1);
    behind = omega arith;
    told = told-as (sym (over_none items 0 0 (omega arith))) told_none;
  }

-- a count read from the root
pub at-most-value : {k m v : ℕ} → k ≤ m → m ≡ v → k ≤ v
at-most-value h e = omega arith

pub at-least-value : {k m v : ℕ} → m ≤ k → m ≡ v → v ≤ k
at-least-value h e = omega arith
