-- Only a Merge has items in the later pass. The places below a token other than the Statement take no Merge, so what
-- an element's pattern stands in is a Merge only where it is the clause itself.
use mathlib.Core.Bool.{Bool, true, false, not}
use mathlib.Core.Logic.{⊎_elim, ◌⊎◌, inl, inr}
use mathlib.Core.Path.{◌≡◌, refl, sym, ap, ◌∙◌, subst}
use mathlib.Core.List.{List, [], ◌∷◌, ◌++◌}
use Prim.Native.Nat.{ℕ, zero, suc, ◌+◌, ◌≤◌, ◌<◌}
use native.Mathlib.Numerals.{add-one}
use native.Mathlib.Omega.{arith}
use borrow.Author.Tests.{eqb-true, eqb-false, ne_eqb, not-true}
use lib.Dec.{eqb}
use lib.ListN.{length, get_or}
use Rattle.lists.specs.Lists.{pick, both, either, table, first, any_of, all_of, is_one, over}
use Rattle.lists.proofs.Laws.{over-more, over-quiet}
use Rattle.lists.proofs.Tests.{never, below, both_true, either_true}
use Rattle.frame.specs.Doc.{Doc, kind_of, value_of}
use Rattle.rules.specs.declared.Place.{Place}
use Rattle.rules.specs.declared.Place.TheVariants.{WholeStatement, Clause, Part, Expr, Name}
use Rattle.rules.specs.Rules.{takes, many, pairs, Rule, rules, opens_by, opens, arity}
use Rattle.grammar.specs.Machine.{grammar_fault}
use Rattle.grammar.specs.Tree.{Tree, tree_of, end, child, enclosing, parent}
use Rattle.grammar.proofs.Places.{past-ge, end-node, end-gt, parent_in, locate}
use Rattle.grammar.proofs.Formed.{arity-at, formed, first-covers, statement-rooted}
use Rattle.grammar.proofs.Flat.{allowed-taken, allowed-inside, tree-kind}
use Rattle.provider.specs.Schema.{Schema}
use Rattle.breach.proofs.Exact.{element-cases}
use Rattle.breach.specs.Breach.{Item, is_element, holder}
use Rattle.breach.specs.Listing.{is_keyed, late}
use Rattle.std.specs.Prelude.{None}
use Rattle.std.specs.Prelude.{Option, Some}

-- ---- what holds of each place that a token opens: of n alike and of the rest, where b says whether it holds of one of
-- them, and r whether of the rest
of_none : (b r : Bool) → r ≡ both (either b true) r
of_none true r = refl
of_none false r = refl

of-more : (b : Bool) (n : ℕ) (r : Bool) → both b (both (either b (eqb n 0)) r) ≡ both (either b (eqb (suc n) 0)) r
of-more true n r = refl
of-more false n r = rw (ne_eqb (suc n) 0 (λ e. omega arith))

pub all-many : (f : Place → Bool) (p : Place) (n : ℕ) (ps : List Place) → all_of f (many n p ps) ≡ both
    (either (f p) (eqb n 0)) (all_of f ps)
unfolding many all_of
all-many f p zero ps = of_none (f p) (all_of f ps)
all-many f p (suc n) ps = rw (all-many f p n ps) (of-more (f p) n (all_of f ps))

pub all-pairs : (f : Place → Bool) (n : ℕ) (ps : List Place) → all_of f (pairs n ps) ≡ both
    (either (both (f Name) (f Expr)) (eqb n 0)) (all_of f ps)
unfolding pairs all_of
all-pairs f zero ps = of_none (both (f Name) (f Expr)) (all_of f ps)
all-pairs f (suc n) ps = rw (all-pairs f n ps)
    (two (f Name) (f Expr) _ ∙ of-more (both (f Name) (f Expr)) n (all_of f ps))
  where
    two : (a b r : Bool) → both a (both b r) ≡ both (both a b) r
    two true b r = refl
    two false b r = refl

pub all-at : (f : Place → Bool) (ps : List Place) (c : ℕ) → all_of f ps ≡ true → c < length ps → f (get_or ps c Expr)
    ≡ true
unfolding all_of
all-at f [] c h l = absurd (omega arith)
all-at f (p ∷ ps) zero h l = (both_true (f p) _ h).0
all-at f (p ∷ ps) (suc c) h l = all-at f ps c (both_true (f p) _ h).1 (omega arith)

-- what holds of each of a list holds of one that is in it
all_one : (f : ℕ → Bool) (ks : List ℕ) (k : ℕ) → all_of f ks ≡ true → is_one ks k ≡ true → f k ≡ true
unfolding all_of any_of
all_one f [] k a h = never h
all_one f (j ∷ ks) k a h =
    let b = both_true (f j) _ a in
    ⊎_elim (λ e. ap f (eqb-true k j e) ∙ b.0) (λ e. all_one f ks k b.1 e) (either_true (eqb k j) _ h)

-- a place takes tokens of such kinds only
unfoldable pub only : (ℕ → Bool) → Place → Bool
only f p = all_of f (takes p)

-- ---- the rows of the rules: what holds of the places of each row, but those of some kinds, holds of what a token of
-- another kind opens
row-holds : (g : List Place → Bool) (v : ℕ) (b : Bool) (r : Rule) (o : Option Rule) → (b ≡ true → g (r.opens v) ≡ true)
    → g (opens_by o v) ≡ true → g (opens_by (pick b (Some r) o) v) ≡ true
row-holds g v true r o p q = p refl
row-holds g v false r o p q = q

pub rows-hold : (g : List Place → Bool) (but : ℕ → Bool) (k v : ℕ) → g [] ≡ true → but k ≡ false → (rs : List Rule)
    → all_of (λ r. either (all_of but r.kinds) (g (r.opens v))) rs ≡ true → g
    (opens_by (first (λ r. is_one r.kinds k) rs) v) ≡ true
unfolding first all_of
rows-hold g but k v z n [] h = z
rows-hold g but k v z n (r ∷ rs) h =
    let b = both_true (either (all_of but r.kinds) (g (r.opens v))) _ h in
    row-holds g v (is_one r.kinds k) r (first (λ r. is_one r.kinds k) rs)
    (λ e. ⊎_elim (λ a. never (sym n ∙ all_one but r.kinds k a e)) (λ a. a)
    (either_true (all_of but r.kinds) _ b.0))
    (rows-hold g but k v z n rs b.1)

-- none but the Statement's opens a place that takes a Merge or a Statement
abbrev inner : ℕ → Bool
inner k = not (is_one (72 ∷ 90 ∷ []) k)

opens-inner : (k v : ℕ) → (k ≡ 90 → ⊥) → all_of (only inner) (opens k v) ≡ true
unfolding opens rules first all_of only takes any_of table
opens-inner k v h =
    rows-hold (all_of (only inner)) (λ j. eqb j 90) k v refl (ne_eqb k 90 h) rules
    (simp (all-pairs (only inner), all-many (only inner)))

-- a Statement opens places of clauses, a Merge that of a Pattern, and a Pattern those of Parts
statement-opens : (f : ℕ → Bool) → only f Clause ≡ true → (k v : ℕ) → k ≡ 90 → all_of (only f) (opens k v) ≡ true
unfolding opens rules first all_of any_of table
statement-opens f h k v e = rw e (all-many (only f) Clause v [] ∙ rw h)

pub merge-opens : (k v : ℕ) → k ≡ 72 → all_of (only (eqb 60)) (opens k v) ≡ true
unfolding opens rules first all_of only takes any_of table
merge-opens k v e = rw e

pub pattern-opens : (k v : ℕ) → k ≡ 60 → all_of (only (eqb 61)) (opens k v) ≡ true
unfolding opens rules first all_of only takes any_of table
pattern-opens k v e = rw e (all-many (only (eqb 61)) Part v [])

-- no Merge and no Statement
abbrev Plain : ℕ → Type 0
Plain k = (k ≡ 72 → ⊥) × (k ≡ 90 → ⊥)

inner-plain : (k : ℕ) → inner k ≡ true → Plain k
unfolding any_of
inner-plain k h =
    let n = not-true (is_one (72 ∷ 90 ∷ []) k) h in
    (λ e. never (sym n ∙ ap (is_one (72 ∷ 90 ∷ [])) e), λ e. never (sym n ∙ ap (is_one (72 ∷ 90 ∷ [])) e))

-- ---- late items
both_false : (a : Bool) → both a false ≡ false
both_false true = refl
both_false false = refl

late-held : (t : Tree) (s : Schema) (j : ℕ) → (holder t j ≡ 72 → ⊥) → late t s j ≡ []
unfolding late
late-held t s j h = rw (ne_eqb (holder t j) 72 h, both_false (is_keyed t j))

-- ---- the tokens of an accepted statement
module _ (d : Doc) (ok : grammar_fault WholeStatement d ≡ None) where
  size_is : (tree_of d).size ≡ length d.tokens
  unfolding tree_of
  size_is = refl

  -- a child stands in a place that its token opens
  module _ (i c : ℕ) (b : i < length d.tokens) (l : c < arity ((tree_of d).kind i) ((tree_of d).value i)) where
    abbrev place : Place
    place = get_or (opens (kind_of d i) (value_of d i)) c Expr

    pub opened : c < length (opens (kind_of d i) (value_of d i))
    opened = omega (arith, arity-at d i)

    taken : is_one (takes place) (kind_of d (child (tree_of d) i c)) ≡ true
    taken = allowed-taken d place _ (formed d WholeStatement ok i b c opened)

    pub child-inside : child (tree_of d) i c < length d.tokens
    child-inside = allowed-inside d place _ (formed d WholeStatement ok i b c opened)

    pub child-takes : (f : ℕ → Bool) → only f place ≡ true → f (kind_of d (child (tree_of d) i c)) ≡ true
    unfolding only
    child-takes f h = all_one f (takes place) _ h taken

    pub child-only : (f : ℕ → Bool) → all_of (only f) (opens (kind_of d i) (value_of d i)) ≡ true → f
        (kind_of d (child (tree_of d) i c)) ≡ true
    child-only f h = child-takes f (all-at (only f) (opens (kind_of d i) (value_of d i)) c h opened)

    pub child-kind : (n : ℕ) → all_of (only (eqb n)) (opens (kind_of d i) (value_of d i)) ≡ true → kind_of d
        (child (tree_of d) i c) ≡ n
    child-kind n h = sym (eqb-true n _ (child-only (eqb n) h))

    child-plain : (kind_of d i ≡ 90 → ⊥) → Plain (kind_of d (child (tree_of d) i c))
    child-plain n = inner-plain _ (child-only inner (opens-inner (kind_of d i) (value_of d i) n))

  -- no token below i is a Merge, by the number l of tokens from i on
  below_plain : (l i j : ℕ) → length d.tokens ≤ i + l → i < length d.tokens → (kind_of d i ≡ 90 → ⊥) → i < j → j
      < end (tree_of d) i → Plain (kind_of d j)
  below_plain zero i j m b n p q = absurd (omega arith)
  below_plain (suc l) i j m b n p q =
      let a = arity ((tree_of d).kind i) ((tree_of d).value i) in
      let r = locate (tree_of d) a (suc i) j p (omega (arith, end-node (tree_of d) i (omega (arith, size_is)))) in
      let at = child (tree_of d) i r.0 in
      let k = child-plain i r.0 b r.1 n in
      ⊎_elim
      (λ (g : at < j). below_plain l at j (omega (arith, past-ge (tree_of d) r.0 (suc i)))
      (child-inside i r.0 b r.1) k.1 g r.3)
      (λ (g : j ≤ at). let e : at ≡ j = omega (arith, r.2) in subst (λ (z : ℕ). Plain (kind_of d z)) e k)
      (below at j)

  -- a token other than the first is a child of the one it belongs to, and has the kind that is taken there
  module _ (j : ℕ) (p : 0 < j) (b : j < length d.tokens) where
    abbrev owner : ℕ
    owner = parent (tree_of d) j

    pub owned : (owner < j) × (j < end (tree_of d) owner)
    owned = let u = parent_in (tree_of d) 0 j p (omega (arith, first-covers d WholeStatement ok, size_is)) in
        (u.1, u.2)

    pub is-child : (c : ℕ) × (c < arity ((tree_of d).kind owner) ((tree_of d).value owner)) × (child (tree_of d) owner c ≡ j)
    is-child =
        let r = locate (tree_of d) (arity ((tree_of d).kind owner) ((tree_of d).value owner)) (suc owner) j owned.0
        (omega (arith, owned, end-node (tree_of d) owner (omega (arith, owned, size_is)))) in
        let at = child (tree_of d) owner r.0 in
        let e : at ≡ j = ⊎_elim
        (λ (g : at < j). absurd (omega (
          arith,
          past-ge (tree_of d) r.0 (suc owner),
          (parent_in (tree_of d) at j g
              r.3).0,
        )))
        (λ (g : j ≤ at). omega (arith, r.2))
        (below at j) in
        (r.0, r.1, e)

    pub owned-only : (f : ℕ → Bool) → all_of (only f) (opens (kind_of d owner) (value_of d owner)) ≡ true → f (kind_of d j)
        ≡ true
    owned-only f h =
        let r = is-child in
        ap (λ (k : ℕ). f (kind_of d k)) (sym r.2) ∙ child-only owner r.0 (omega (arith, owned)) r.1 f h

    owned-kind : (n : ℕ) → all_of (only (eqb n)) (opens (kind_of d owner) (value_of d owner)) ≡ true → kind_of d j ≡ n
    owned-kind n h = sym (eqb-true n _ (owned-only (eqb n) h))

  -- what stands three above a token below i: a token below i, i itself, or one of the two above i
  module _ (i : ℕ) (b : i < length d.tokens) (k : Plain (kind_of d i)) where
    up : (j : ℕ) → i < j → j < end (tree_of d) i → (i ≡ parent (tree_of d) j)
        ⊎ ((i < parent (tree_of d) j) × (parent (tree_of d) j < end (tree_of d) i))
    up j p q =
        let r = parent_in (tree_of d) i j p q in
        ⊎_elim (λ g. inr (g, omega arith)) (λ g. inl (omega arith)) (below i (parent (tree_of d) j))

    held : (kind_of d (parent (tree_of d) i) ≡ 72 → ⊥) → (kind_of d (parent (tree_of d) (parent (tree_of d) i)) ≡ 72 → ⊥)
        → (j : ℕ) → i < j → j < end (tree_of d) i → holder (tree_of d) j ≡ 72 → ⊥
    unfolding holder tree_of
    held n m j p q =
        let once = parent (tree_of d) j in
        let twice = parent (tree_of d) once in
        ⊎_elim
        (λ e. subst (λ (z : ℕ). kind_of d (parent (tree_of d) (parent (tree_of d) z)) ≡ 72 → ⊥) e m)
        (λ r. ⊎_elim
        (λ e. subst (λ (z : ℕ). kind_of d (parent (tree_of d) z) ≡ 72 → ⊥) e n)
        (λ u. ⊎_elim
        (λ e. subst (λ (z : ℕ). kind_of d z ≡ 72 → ⊥) e k.0)
        (λ w. (below_plain (length d.tokens) i (parent (tree_of d) twice) (omega arith) b k.1 w.0 w.1).0)
        (up twice u.0 u.1))
        (up once r.0 r.1))
        (up j p q)

    silent-below : (sc : Schema) → (kind_of d (parent (tree_of d) i) ≡ 72 → ⊥)
        → (kind_of d (parent (tree_of d) (parent (tree_of d) i)) ≡ 72 → ⊥) → over (late (tree_of d) sc) (suc i)
        (end (tree_of d) i) ≡ []
    silent-below sc n m =
        over-quiet (late (tree_of d) sc) (suc i) (end (tree_of d) i)
        (λ j p q. late-held (tree_of d) sc j (held n m j p
        (omega (arith, end-gt (tree_of d) i (omega (arith, size_is))))))

  -- ---- a clause that is no Merge has none
  module _ (i : ℕ) (b : i < length d.tokens) where
    root-kind : kind_of d 0 ≡ 90
    root-kind = sym (tree-kind d 0) ∙ (statement-rooted d (omega arith) ok).root

    at-root : (j : ℕ) → j ≡ 0 → kind_of d j ≡ 72 → ⊥
    at-root j e g = omega (arith, root-kind, ap (kind_of d) e)

    -- a token of another kind than the first one's stands after it
    pub after-root : (kind_of d i ≡ 90 → ⊥) → 0 < i
    after-root n = ⊎_elim (λ p. p) (λ p. absurd (let z : i ≡ 0 = omega arith in n (ap (kind_of d) z ∙ root-kind)))
        (below 0 i)

    -- what holds of each kind that a clause may have holds of its kind
    pub clause-only : (f : ℕ → Bool) → only f Clause ≡ true → 0 < i → parent (tree_of d) i ≡ 0 → f (kind_of d i) ≡ true
    clause-only f h p e = owned-only i p b f (statement-opens f h _ _ (ap (kind_of d) e ∙ root-kind))

    clause-plain : 0 < i → parent (tree_of d) i ≡ 0 → kind_of d i ≡ 90 → ⊥
    unfolding only all_of takes any_of table
    clause-plain p e g = eqb-false (kind_of d i) 90 (not-true _ (clause-only (λ j. not (eqb j 90)) refl p e)) g

    pub clause-silent : (sc : Schema) → 0 < i → parent (tree_of d) i ≡ 0 → (kind_of d i ≡ 72 → ⊥) → over
        (late (tree_of d) sc) i (end (tree_of d) i) ≡ []
    unfolding enclosing holder tree_of
    clause-silent sc p e k =
        let twice : parent (tree_of d) (parent (tree_of d) i) ≡ 0 = ap (parent (tree_of d)) e in
        let thrice : parent (tree_of d) (parent (tree_of d) (parent (tree_of d) i)) ≡ 0 = ap (parent (tree_of d)) twice in
        over-more (late (tree_of d) sc) i (end (tree_of d) i) (end-gt (tree_of d) i (omega (arith, size_is)))
        ∙ ap (λ (l : List Item). l ++ over (late (tree_of d) sc) (i + 1) (end (tree_of d) i))
        (late-held (tree_of d) sc i (at-root _ thrice))
        ∙ ap (λ (j : ℕ). over (late (tree_of d) sc) j (end (tree_of d) i)) (add-one i)
        ∙ silent-below i b (k, clause-plain p e) sc (at-root _ e) (at-root _ twice)

    -- ---- no token below an element has one: it is in no Merge directly, nor in a Merge's Pattern, but in a Part
    module _ (e : is_element (kind_of d i) ≡ true) where
      element-kind : (62 ≤ kind_of d i) × (kind_of d i ≤ 63)
      element-kind = ⊎_elim (λ k. (omega arith, omega arith)) (λ k. (omega arith, omega arith))
          (element-cases (kind_of d i) e)

      pub element-after : 0 < i
      element-after = after-root (λ k. omega (arith, element-kind, k))

      not-in-merge : kind_of d (parent (tree_of d) i) ≡ 72 → ⊥
      not-in-merge g = let k = owned-kind i element-after b 60 (merge-opens _ _ g) in omega (arith, element-kind, k)

      not-in-pattern : kind_of d (parent (tree_of d) (parent (tree_of d) i)) ≡ 72 → ⊥
      unfolding enclosing
      not-in-pattern g = ⊎_elim
          (λ p. let k = owned-kind (parent (tree_of d) i) p (omega (arith, owned i element-after b)) 60
          (merge-opens _ _ g) in
          let l = owned-kind i element-after b 61 (pattern-opens _ _ k) in omega (arith, element-kind, l))
          (λ p. let z : parent (tree_of d) i ≡ 0 = omega arith in at-root _ (ap (parent (tree_of d)) z) g)
          (below 0 (parent (tree_of d) i))

      pub element-silent : (sc : Schema) → over (late (tree_of d) sc) (suc i) (end (tree_of d) i) ≡ []
      element-silent sc = silent-below i b (
        (λ g. omega (arith, element-kind, g)),
        λ g. omega
            (arith, element-kind, g),
      ) sc not-in-merge not-in-pattern
