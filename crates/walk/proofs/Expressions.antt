-- Walking over expressions: the trees that are left, of which none is a Part or an element, and what is written.
use mathlib.Core.Bool.{true, false}
use mathlib.Core.Logic.{⊎_elim}
use mathlib.Core.Path.{◌≡◌, refl, sym, ap, ◌∙◌, subst}
use mathlib.Core.List.{List}
use Prim.Native.Nat.{ℕ, suc, ◌+◌, ◌-◌, ◌≤◌, ◌<◌}
use native.Mathlib.Numerals.{add-one}
use native.Mathlib.Omega.{arith}
use borrow.Author.Tests.{ne_eqb}
use lib.ListN.{length}
use Rattle.lists.specs.Lists.{any_of, over}
use Rattle.lists.proofs.Tests.{never, below}
use Rattle.lists.proofs.Laws.{over_none, over-one, over-join}
use Rattle.frame.specs.Doc.{Doc, doc_of, kind_of}
use Rattle.frame.specs.declared.Sizes.{Sizes}
use Rattle.rules.specs.declared.Place.TheVariants.{WholeStatement}
use Rattle.rules.specs.Rules.{arity}
use Rattle.grammar.specs.Machine.{grammar_fault}
use Rattle.grammar.specs.Inner.{most_trees}
use Rattle.grammar.specs.Tree.{Tree, tree_of, past, end}
use Rattle.grammar.proofs.Places.{past-none, past-add, past-ge, past-le, past-mono, end-node, end-gt}
use Rattle.grammar.proofs.Skipping.{skip-on, skip-done}
use Rattle.breach.specs.Breach.{Item, statement_in, schema_in}
use Rattle.judge.specs.Window.{half_count}
use Rattle.judge.specs.declared.Tally.{Tally}
use Rattle.judge.proofs.Wrote.{wrote_none, wrote-join, wrote_as}
use Rattle.walk.specs.declared.Step.{Step}
use Rattle.walk.specs.declared.Opened.{Opened}
use Rattle.walk.specs.declared.Pass.{Pass}
use Rattle.walk.specs.Walk.{said, holds_elements, Root, Roots, TreeReady, BelowReady, PassReady, OpenedAt, Passing, Passed, WroteBelow, Walked}
use Rattle.walk.proofs.Patterns.{no-part-below}
use Rattle.walk.proofs.Merges.{child-inside}
use Rattle.walk.proofs.Steps.{size_is, split}
use Rattle.std.specs.Prelude.{None}

-- ---- the trees that are left
module _ (t : Tree) (at n : ℕ) (r : Roots t at n) (h : 0 < n) where
  pub first-root : Root t at
  first-root = subst (Root t) (past-none t at) (r 0 h)

  -- without the first of them
  pub roots-past : Roots t (end t at) (n - 1)
  roots-past c l =
      let e : suc c ≡ 1 + c = omega arith in
      subst (Root t) (ap (λ (m : ℕ). past t m at) e ∙ past-add t 1 c at) (r (suc c) (omega arith))

module _ (d : Doc) (ok : grammar_fault WholeStatement d ≡ None) where
  -- a kind that opens no such place is none that does
  not-holding : (k n : ℕ) → holds_elements n ≡ true → holds_elements k ≡ false → k ≡ n → ⊥
  not-holding k n y h e = never (sym h ∙ ap holds_elements e ∙ y)

  -- those that a token opens
  pub roots-below : (i : ℕ) → i < length d.tokens → holds_elements (kind_of d i) ≡ false
      → Roots (tree_of d) (i + 1) (arity ((tree_of d).kind i) ((tree_of d).value i))
  unfolding tree_of any_of
  roots-below i b h c l =
      let p = no-part-below d ok i c b l (not-holding (kind_of d i) 60 refl h) (not-holding (kind_of d i) 61 refl h) in
      subst (λ (j : ℕ). Root (tree_of d) (past (tree_of d) c j)) (sym (add-one i))
      (record { inside = child-inside d ok i c b l; no_part = p.0; no_element = p.1 })

  holds-none : (at : ℕ) → Root (tree_of d) at → (kind_of d at ≡ 60 → ⊥) → holds_elements (kind_of d at) ≡ false
  unfolding any_of tree_of
  holds-none at o k = rw (ne_eqb (kind_of d at) 60 k, ne_eqb (kind_of d at) 61 o.no_part)

  -- those that the first of them opens, and the others
  pub roots-on : (at n : ℕ) → Roots (tree_of d) at n → 0 < n → (kind_of d at ≡ 60 → ⊥)
      → Roots (tree_of d) (at + 1) (n - 1 + arity ((tree_of d).kind at) ((tree_of d).value at))
  unfolding tree_of
  roots-on at n r h k c l =
      let o = first-root (tree_of d) at n r h in
      let a = arity ((tree_of d).kind at) ((tree_of d).value at) in
      ⊎_elim
      (λ (g : c < a). roots-below at o.inside (holds-none at o k) c g)
      (λ (g : a ≤ c). let e : c ≡ a + (c - a) = omega arith in
      let q : past (tree_of d) c (at + 1) ≡ past (tree_of d) (c - a) (end (tree_of d) at) =
      ap (λ (j : ℕ). past (tree_of d) c j) (add-one at) ∙ ap (λ (m : ℕ). past (tree_of d) m (suc at)) e
      ∙ past-add (tree_of d) a (c - a) (suc at)
      ∙ ap (past (tree_of d) (c - a)) (sym (end-node (tree_of d) at o.inside)) in
      subst (Root (tree_of d)) (sym q) (roots-past (tree_of d) at n r h (c - a) (omega arith)))
      (below c a)

-- ---- from p to q
-- what the first pass says of the tokens of two sheets
abbrev items : List ℕ → List ℕ → ℕ → List Item
items s d = said false (statement_in s) (schema_in d)

pub passing-join : (s d : List ℕ) {p q r : Pass} {l l₁ l₂ : List ℕ} → Passing (statement_in s) (schema_in d) p l q l₁
    → Passing (statement_in s) (schema_in d) q l₁ r l₂ → Passing (statement_in s) (schema_in d) p l r l₂
passing-join s d {p} {q} {r} x y = record {
  on = omega (arith, x.on, y.on);
  here = y.here;
  roots = y.roots;
  few = y.few;
  rest = y.rest ∙ x.rest;
  wrote = wrote_as (over-join (items s d) p.next q.next r.next x.on y.on)
      (wrote-join x.wrote y.wrote);
}

module _ {s d : List ℕ} {sizes : Sizes} {reg : List ℕ} {p : Pass} (z : PassReady s d sizes reg p) where
  pub passing-start : {l : List ℕ} → Passing (statement_in s) (schema_in d) p l p l
  passing-start = record {
    on = omega arith;
    here = omega (arith, z.here, size_is z.lent);
    roots = z.roots;
    few = z.few;
    rest = refl;
    wrote = wrote_as (sym (over_none (items s d) p.next p.next (omega arith))) wrote_none;
  }

  -- from where it stands it can go on
  pub passing-ready : {q : Pass} {l l₁ : List ℕ} → Passing (statement_in s) (schema_in d) p l q l₁ → PassReady s d sizes reg q
  passing-ready {q} x = record {
    lent = z.lent;
    roots = x.roots;
    here = omega (arith, x.here, size_is z.lent);
    few = x.few;
    room = omega (
      arith,
      x.wrote.count,
      z.room,
      ap (λ (c : ℕ). length (over (items s d) q.next c)) x.rest,
      split false (statement_in s) (schema_in d) p.next q.next (past (statement_in s) p.left p.next)
          (past (statement_in s) p.left p.next) x.on
          (omega (arith, past-ge (statement_in s) q.left q.next, x.rest)) (omega arith),
    );
  }

  -- ---- the next token
  module _ (h : 0 < p.left) where
    pub next-root : Root (statement_in s) p.next
    next-root = first-root (statement_in s) p.next p.left z.roots h

    pub next_here : p.next < sizes.statement.tokens
    next_here = omega (arith, next-root.inside, size_is z.lent)

    pub next-room : p.tally.count < half_count
    next-room = omega (arith, z.room)

    -- it is passed, with its items
    pub token-passed : {k : ℕ} → k ≡ kind_of (doc_of s) p.next → (k ≡ 60 → ⊥) → {o : Opened} {l l₁ : List ℕ}
        → OpenedAt (statement_in s) (schema_in d) p.next p.tally l o l₁
        → Passing (statement_in s) (schema_in d) p l
        (record { next = p.next + 1; left = p.left - 1 + o.trees; tally = o.tally }) l₁
    token-passed e k {o} v = record {
      on = omega arith;
      here = omega (arith, next-root.inside);
      roots = subst (λ (a : ℕ). Roots (statement_in s) (p.next + 1) (p.left - 1 + a)) (sym v.trees)
          (roots-on (doc_of s) z.lent.read p.next p.left z.roots h (λ g. k (e ∙ g)));
      few = omega (arith, z.few, v.few);
      rest = skip-on (statement_in s) p.left p.next (past (statement_in s) p.left p.next) refl o.trees h
          next-root.inside v.trees;
      wrote = wrote_as (sym (ap (over (items s d) p.next) (add-one p.next) ∙ over-one (items s d) p.next))
          v.wrote;
    }

    -- it is a Pattern, which is passed as a whole
    pub pattern-ready : TreeReady false s d sizes reg p.next p.tally
    pattern-ready = record {
      lent = z.lent;
      here = next_here;
      room = omega (
        arith,
        z.room,
        split false (statement_in s) (schema_in d) p.next (end (statement_in s) p.next)
            (past (statement_in s) p.left p.next) (past (statement_in s) p.left p.next)
            (past-ge (statement_in s) 1 p.next) (past-mono (statement_in s) 1 p.left p.next h) (omega arith),
      );
    }

    module _ {r : Step} {l l₁ : List ℕ} (v : Walked false (statement_in s) (schema_in d) p.next p.tally l r l₁) where
      pub goes_on_lem : p.next < r.next
      goes_on_lem = omega (arith, v.next, end-gt (statement_in s) p.next next-root.inside)

      pub pattern-passed : Passing (statement_in s) (schema_in d) p l
          (record { next = r.next; left = p.left - 1; tally = r.tally }) l₁
      pattern-passed =
          let e : p.left ≡ 1 + (p.left - 1) = omega arith in
          record {
            on = omega (arith, goes_on_lem);
            here = omega (
              arith,
              v.next,
              past-le (statement_in s) 1 p.next (omega (arith, next-root.inside)),
            );
            roots = subst (λ (j : ℕ). Roots (statement_in s) j (p.left - 1)) (sym v.next)
                (roots-past (statement_in s) p.next p.left z.roots h);
            few = omega (arith, z.few, goes_on_lem);
            rest = sym (ap (λ (m : ℕ). past (statement_in s) m p.next) e
                ∙ past-add (statement_in s) 1 (p.left - 1) p.next
                ∙ ap (past (statement_in s) (p.left - 1)) (sym v.next));
            wrote = wrote_as (ap (over (items s d) p.next) (sym v.next)) v.wrote;
          }

-- ---- it stops
module _ (s d : List ℕ) {p q : Pass} {l l₁ : List ℕ} (x : Passing (statement_in s) (schema_in d) p l q l₁) where
  pub none_left : q.left ≤ 0 → Passed (statement_in s) (schema_in d) p l q l₁
  none_left h = record { passing = x; stop = λ g. absurd (omega arith) }

  pub at-pattern : {k : ℕ} → k ≡ kind_of (doc_of s) q.next → k ≡ 60 → Passed (statement_in s) (schema_in d) p l q l₁
  unfolding tree_of
  at-pattern e h = record { passing = x; stop = λ g. sym e ∙ h }

  -- and where it goes on from there, stops again
  pub stops-again : {r : Pass} {l₂ : List ℕ} → Passed (statement_in s) (schema_in d) q l₁ r l₂
      → Passed (statement_in s) (schema_in d) p l r l₂
  stops-again y = record { passing = passing-join s d x y.passing; stop = y.stop }

-- ---- all that belongs to token i
module _ {s d : List ℕ} {sizes : Sizes} {reg : List ℕ} {i : ℕ} {w : Tally} (z : BelowReady false s d sizes reg i w)
    {a : ℕ} (e : a ≡ arity ((statement_in s).kind i) ((statement_in s).value i)) where
  first-end : past (statement_in s) a (i + 1) ≡ end (statement_in s) i
  first-end =
      ap (past (statement_in s) a) (add-one i) ∙ ap (λ (n : ℕ). past (statement_in s) n (suc i)) e
      ∙ sym (end-node (statement_in s) i (omega (arith, z.here, size_is z.lent)))

  pub first-ready : holds_elements (kind_of (doc_of s) i) ≡ false → a < most_trees
      → PassReady s d sizes reg (record { next = i + 1; left = a; tally = w })
  first-ready h f = record {
    lent = z.lent;
    roots = subst (Roots (statement_in s) (i + 1)) (sym e)
        (roots-below (doc_of s) z.lent.read i (omega (arith, z.here, z.lent.sheet.tokens)) h);
    here = omega (arith, z.here);
    few = omega arith;
    room = omega (
      arith,
      z.room,
      ap length (ap (over (items s d) (i + 1)) first-end
          ∙ ap (λ (j : ℕ). over (items s d) j (end (statement_in s) i)) (add-one i)),
    );
  }

  pub all-passed : {l₀ l : List ℕ} {q : Pass} → Passed (statement_in s) (schema_in d)
      (record { next = i + 1; left = a; tally = w }) l₀ q l → q.left ≤ 0
      → WroteBelow false (statement_in s) (schema_in d) i w l₀ (record { next = q.next; tally = q.tally }) l
  all-passed {l₀} {l} {q} y h =
      let n = skip-done (statement_in s) q.left q.next (end (statement_in s) i) (y.passing.rest ∙ first-end) h in
      record {
        next = n;
        wrote = wrote_as (ap (λ (j : ℕ). over (items s d) j q.next) (add-one i)
            ∙ ap (over (items s d) (suc i)) n) y.passing.wrote;
      }
