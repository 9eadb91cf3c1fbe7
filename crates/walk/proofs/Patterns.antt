-- Where elements stand: in the Parts of a Pattern, and a Pattern is the first child of the token that it belongs to. So
-- who reads the tokens of some trees in turn, and passes each Pattern as a whole, meets no element.
use mathlib.Core.Bool.{Bool, true, false, not}
use mathlib.Core.Logic.{⊎_elim}
use mathlib.Core.Path.{◌≡◌, refl, sym, ap, ◌∙◌}
use mathlib.Core.List.{List, [], ◌∷◌}
use Prim.Native.Nat.{ℕ, zero, suc, ◌<◌}
use native.Mathlib.Omega.{arith}
use borrow.Author.Tests.{eqb-false, ne_eqb, not-true}
use lib.Dec.{eqb}
use lib.ListN.{length, get_or, drop}
use Rattle.lists.specs.Lists.{either, table, first, any_of, all_of}
use Rattle.lists.proofs.Tests.{both_true, either_true}
use Rattle.frame.specs.Doc.{Doc, kind_of, value_of}
use Rattle.rules.specs.declared.Place.{Place}
use Rattle.rules.specs.declared.Place.TheVariants.{WholeStatement, Element, Expr}
use Rattle.rules.specs.Rules.{takes, rules, opens, arity}
use Rattle.grammar.specs.Machine.{grammar_fault}
use Rattle.grammar.specs.Tree.{tree_of, child, parent}
use Rattle.grammar.proofs.Places.{past-none}
use Rattle.breach.specs.Breach.{is_element}
use Rattle.walk.proofs.Merges.{all-many, all-pairs, all-at, only, rows-hold, pattern-opens, opened, child-inside, child-takes, child-only, child-kind, owned, is-child, after-root}
use Rattle.std.specs.Prelude.{None}

-- ---- the rows of the rules: a Part opens places of elements, and no other row does; no row but a Pattern's opens a
-- place of a Part; and none opens one of a Pattern, but as its first
abbrev no_element : ℕ → Bool
no_element k = not (is_element k)

abbrev no_part : ℕ → Bool
no_part k = not (eqb k 61)

abbrev no_pattern : ℕ → Bool
no_pattern k = not (eqb k 60)

part-opens : (k v : ℕ) → k ≡ 61 → all_of (only is_element) (opens k v) ≡ true
unfolding opens rules first all_of only takes any_of table
part-opens k v e = rw e (all-many (only is_element) Element v [])

other-than-part : (k v : ℕ) → eqb k 61 ≡ false → all_of (only no_element) (opens k v) ≡ true
unfolding opens rules first all_of only takes any_of table
other-than-part k v n = rows-hold (all_of (only no_element)) (λ j. eqb j 61) k v refl n rules
    (simp (all-pairs (only no_element), all-many (only no_element)))

other-than-pattern : (k v : ℕ) → eqb k 60 ≡ false → all_of (only no_part) (opens k v) ≡ true
unfolding opens rules first all_of only takes any_of table
other-than-pattern k v n = rows-hold (all_of (only no_part)) (λ j. eqb j 60) k v refl n rules
    (simp (all-pairs (only no_part), all-many (only no_part)))

-- it holds of each place, or of each but the first
later : (Place → Bool) → List Place → Bool
later f ps = either (all_of f ps) (all_of f (drop 1 ps))

later-at : (f : Place → Bool) (ps : List Place) (c : ℕ) → later f ps ≡ true → suc c < length ps → f
    (get_or ps (suc c) Expr) ≡ true
unfolding later all_of
later-at f [] c h l = absurd (omega arith)
later-at f (p ∷ ps) c h l = all-at f ps c
    (⊎_elim (λ a. (both_true (f p) _ a).1) (λ a. a) (either_true (all_of f (p ∷ ps)) _ h)) (omega arith)

opens-later : (k v : ℕ) → later (only no_pattern) (opens k v) ≡ true
unfolding opens rules first all_of only takes any_of table later
opens-later k v = rows-hold (later (only no_pattern)) (λ j. false) k v refl refl rules
    (simp (all-pairs (only no_pattern), all-many (only no_pattern)))

-- ---- the tokens of an accepted statement
module _ (d : Doc) (ok : grammar_fault WholeStatement d ≡ None) where
  module _ (j : ℕ) (b : j < length d.tokens) where
    -- a Pattern is the first child of the token that it belongs to
    pub pattern-after : kind_of d j ≡ 60 → (0 < j) × (suc (parent (tree_of d) j) ≡ j)
    pattern-after e =
        let p : 0 < j = after-root d ok j b (λ g. omega arith) in
        let r = is-child d ok j p b in
        (p, go r.0 r.1 r.2 (omega (arith, owned d ok j p b)))
      where
        go : (c : ℕ) → c < arity ((tree_of d).kind (parent (tree_of d) j)) ((tree_of d).value (parent (tree_of d) j))
            → child (tree_of d) (parent (tree_of d) j) c ≡ j → parent (tree_of d) j < length d.tokens → suc
            (parent (tree_of d) j) ≡ j
        go zero l g q = sym (past-none (tree_of d) (suc (parent (tree_of d) j))) ∙ g
        go (suc c) l g q =
            let o = parent (tree_of d) j in
            let t = child-takes d ok o (suc c) q l no_pattern (later-at (only no_pattern)
            (opens (kind_of d o) (value_of d o)) c (opens-later (kind_of d o) (value_of d o))
            (opened d ok o (suc c) q l)) in
            absurd (eqb-false (kind_of d (child (tree_of d) o (suc c))) 60 (not-true _ t) (ap (kind_of d) g ∙ e))

  -- what stands in a Part, in a Pattern, and in any other token
  module _ (i c : ℕ) (b : i < length d.tokens) (l : c < arity ((tree_of d).kind i) ((tree_of d).value i)) where
    pub part-elements : kind_of d i ≡ 61 → (is_element (kind_of d (child (tree_of d) i c)) ≡ true)
        × (child (tree_of d) i c < length d.tokens)
    part-elements e = (child-only d ok i c b l is_element (part-opens _ _ e), child-inside d ok i c b l)

    pub pattern-parts : kind_of d i ≡ 60 → (kind_of d (child (tree_of d) i c) ≡ 61)
        × (child (tree_of d) i c < length d.tokens)
    pattern-parts e = (child-kind d ok i c b l 61 (pattern-opens _ _ e), child-inside d ok i c b l)

    pub no-part-below : (kind_of d i ≡ 60 → ⊥) → (kind_of d i ≡ 61 → ⊥) → (kind_of d (child (tree_of d) i c) ≡ 61 → ⊥)
        × (is_element (kind_of d (child (tree_of d) i c)) ≡ false)
    no-part-below n m = (
      eqb-false _ 61 (not-true _ (child-only d ok i c b l no_part (other-than-pattern _ _ (ne_eqb (kind_of d i) 60 n)))),
      not-true _ (child-only d ok i c b l no_element (other-than-part _ _ (ne_eqb (kind_of d i) 61 m))),
    )
