-- Passing over a tree of an accepted document: each token fills a place, so its rule says how many trees belong to it.
use mathlib.Core.Bool.{true}
use mathlib.Core.Logic.{◌⊎◌, inl, inr, ⊎_elim}
use mathlib.Core.Path.{◌≡◌, sym, ap, ◌∙◌, subst}
use mathlib.Core.List.{List, [], ◌∷◌}
use Prim.Native.Nat.{ℕ, suc, ◌+◌, ◌-◌, ◌*◌, ◌/◌, ◌%◌, ◌≤◌, ◌<◌}
use native.Mathlib.Numerals.{add-one}
use native.Mathlib.Omega.{arith}
use borrow.Author.Tests.{leb-true}
use lib.ListN.{length, get_or}
use Rattle.lists.specs.Lists.{table, first, any_of, is_one}
use Rattle.lists.proofs.Tests.{below, both_true}
use Rattle.frame.specs.declared.Sheet.{Sheet}
use Rattle.frame.specs.Doc.{Doc, doc_of, kind_of, value_of}
use Rattle.frame.specs.Inner.{Sound}
use Rattle.rules.specs.declared.Place.{Place}
use Rattle.rules.specs.declared.Place.TheVariants.{Part, Element, Expr, Name, SpanStart, SpanEnd}
use Rattle.rules.specs.declared.Shape.{Shape}
use Rattle.rules.specs.Rules.{takes, valued, rules, most_of, opens, many, pairs, arity}
use Rattle.rules.specs.Shapes.{shaped, Ruled}
use Rattle.rules.proofs.Rows.{many-length}
use Rattle.rules.proofs.Children.{element_places, pairs-length}
use Rattle.grammar.specs.Machine.{bounded, allowed, grammar_fault}
use Rattle.grammar.specs.Tree.{Tree, tree_of, past, end, child, parent}
use Rattle.grammar.proofs.Below.{small-opens}
use Rattle.grammar.proofs.Places.{past-none, past-out, past-node, past-ge, end-node, parent_in, locate}
use Rattle.grammar.proofs.Formed.{arity-at, formed, first-allowed, first-covers}
use Rattle.std.specs.Prelude.{None}

-- token j, which belongs to p: one of p's children
pub child-of : (t : Tree) (j : ℕ) → 0 < j → j < t.size → end t 0 ≡ t.size
    → (p c : ℕ) × (p < t.size) × (c < arity (t.kind p) (t.value p)) × (child t p c ≡ j)
child-of t j a b w =
    let u : (0 ≤ parent t j) × (parent t j < j) × (j < end t (parent t j)) = parent_in t 0 j a (omega arith) in
    let p : ℕ = parent t j in
    let g : j < child t p (arity (t.kind p) (t.value p)) = subst (λ (z : ℕ). j < z) (end-node t p (omega arith))
    u.2 in
    let r : (c : ℕ) × (c < arity (t.kind p) (t.value p)) × (child t p c ≤ j) × (j < end t (child t p c)) = locate t
    (arity (t.kind p) (t.value p)) (suc p) j u.1 g in
    let e : child t p r.0 ≡ j = ⊎_elim
    (λ k. absurd (let v = parent_in t (child t p r.0) j k r.3 in omega (arith, v.0, past-ge t r.0 (suc p))))
    (λ k. omega arith)
    (below (child t p r.0) j) in
    (p, r.0, omega arith, r.1, e)

-- every token of an accepted document fills a place
module _ (d : Doc) (p : Place) (h : grammar_fault p d ≡ None) (j : ℕ) (b : j < length d.tokens) where
  pub seated : (q : Place) × (allowed d q j ≡ true)
  unfolding tree_of
  seated = ⊎_elim
      (λ a. let r = child-of (tree_of d) j a b (first-covers d p h) in
      let o : r.1 < length (opens (kind_of d r.0) (value_of d r.0)) = omega (arith, arity-at d r.0, r.3) in (
        get_or (opens (kind_of d r.0) (value_of d r.0)) r.1 Expr,
        subst
            (λ (n : ℕ). allowed d (get_or (opens (kind_of d r.0) (value_of d r.0)) r.1 Expr) n ≡ true) r.4
            (formed d p h r.0 r.2 r.1 o),
      ))
      (λ a. let z : 0 ≡ j = omega arith in (
        p,
        subst (λ (n : ℕ). allowed d p n ≡ true) z
            (first-allowed d p h (omega arith)),
      ))
      (below 0 j)

  -- and has a value that its kind may have
  pub valued-at : value_of d j ≤ most_of (kind_of d j)
  unfolding allowed
  valued-at =
      let a = seated in
      leb-true _ _ (both_true (valued (kind_of d j) (value_of d j)) (bounded d a.0 j)
      (both_true (is_one (takes a.0) (kind_of d j)) _ a.1).1).0

-- ---- how many places a shape stands for
shaped-length : (x : Shape) → length (shaped x) ≡ 2 * x.spans + x.names + 2 * x.pairs + x.firsts + x.seconds
shaped-length x = omega (
  arith,
  many-length x.spans SpanStart (many x.spans SpanEnd (many x.names Name
      (pairs x.pairs (many x.firsts x.first (many x.seconds x.second []))))),
  many-length x.spans SpanEnd (many x.names Name
      (pairs x.pairs (many x.firsts x.first (many x.seconds x.second [])))),
  many-length x.names Name (pairs x.pairs (many x.firsts x.first (many x.seconds x.second []))),
  pairs-length x.pairs (many x.firsts x.first (many x.seconds x.second [])),
  many-length x.firsts x.first (many x.seconds x.second []),
  many-length x.seconds x.second [],
)

-- ---- how many places a token opens: by its rule, and of frequent kinds
pub rule-count : (k v n : ℕ) (x : Shape) → v ≤ most_of k → Ruled k v x
    → n ≡ 2 * x.spans + x.names + 2 * x.pairs + x.firsts + x.seconds → n ≡ length (opens k v)
rule-count k v n x h r e = e ∙ sym (shaped-length x) ∙ ap length (r.below h)

module _ (k v : ℕ) where
  pub name-count : k ≡ 50 → 0 ≡ length (opens k v)
  unfolding opens rules first any_of table
  name-count e = rw e

  pub two-count : (k ≡ 10) ⊎ (k ≡ 17) → 2 ≡ length (opens k v)
  unfolding opens rules first any_of table
  two-count (inl e) = rw e
  two-count (inr e) = rw e

  pub list_count : (k ≡ 13) ⊎ (k ≡ 60) → v ≡ length (opens k v)
  unfolding opens rules first any_of table
  list_count (inl e) = let z : v ≡ length (many v Expr []) = omega (arith, many-length v Expr []) in rw e z
  list_count (inr e) = let z : v ≡ length (many v Part []) = omega (arith, many-length v Part []) in rw e z

  pub part_count : k ≡ 61 → v ≡ length (opens k v)
  unfolding opens rules first any_of table
  part_count e = let z : v ≡ length (many v Element []) = omega (arith, many-length v Element []) in rw e z

  pub map-count : k ≡ 14 → 2 * v ≡ length (opens k v)
  unfolding opens rules first any_of table
  map-count e = let z : 2 * v ≡ length (pairs v []) = omega (arith, pairs-length v []) in rw e z

  pub call-count : k ≡ 16 → 1 + v ≡ length (opens k v)
  unfolding opens rules first any_of table
  call-count e = let z : 1 + v ≡ length (Name ∷ many v Expr []) = omega (arith, many-length v Expr []) in rw e z

  pub element-count : (k ≡ 62) ⊎ (k ≡ 63) → 2 + v / 2 + v % 2 ≡ length (opens k v)
  unfolding opens rules first any_of table
  element-count h =
      let z : 2 + v / 2 + v % 2 ≡ length (element_places v) = omega (
        arith,
        many-length (v / 2) Name (many (v % 2) Expr []),
        many-length (v % 2) Expr [],
      ) in
      ⊎_elim (λ e. rw e z) (λ e. rw e z) h

  pub clause-count : (k ≡ 70) ⊎ (k ≡ 72) → 1 ≡ length (opens k v)
  unfolding opens rules first any_of table
  clause-count (inl e) = rw e
  clause-count (inr e) = rw e

  pub create-count : k ≡ 71 → 1 ≡ length (opens k v)
  unfolding opens rules first any_of table
  create-count e = rw e

-- ---- the arity that is read
module _ (d : Doc) (i k : ℕ) (ek : k ≡ kind_of d i) where
  pub small-arity : k < 10 → 0 ≡ arity ((tree_of d).kind i) ((tree_of d).value i)
  small-arity h = sym (arity-at d i ∙ ap length (small-opens (kind_of d i) (value_of d i) (rw ek at h)))

  module _ (v : ℕ) (ev : v ≡ value_of d i) where
    pub arity-read : (n : ℕ) → n ≡ length (opens k v) → n ≡ arity ((tree_of d).kind i) ((tree_of d).value i)
    arity-read n e = rw (ek, ev) at e ∙ sym (arity-at d i)

    pub may-have : (p : Place) → grammar_fault p d ≡ None → i < length d.tokens → v ≤ most_of k
    may-have p h b = rw (ek, ev) (valued-at d p h i b)

-- ---- passing over a tree: `need` trees from `at` on are still to pass
module _ (t : Tree) (need at x : ℕ) (i : past t need at ≡ x) where
  pub skip-on : (n : ℕ) → 0 < need → at < t.size → n ≡ arity (t.kind at) (t.value at) → past t (need - 1 + n)
      (at + 1) ≡ x
  skip-on n h b e =
      let z : suc (need - 1) ≡ need = omega arith in
      rw (e, add-one at) (sym (past-node t (need - 1) at b) ∙ ap (λ (m : ℕ). past t m at) z ∙ i)

  pub skip-out : t.size ≤ at → at ≡ x
  skip-out h = sym (past-out t need at h) ∙ i

  pub skip-done : need ≤ 0 → at ≡ x
  skip-done h =
      let z : need ≡ 0 = omega arith in
      sym (past-none t at) ∙ ap (λ (m : ℕ). past t m at) (sym z) ∙ i

-- as many tokens as the sizes say
pub size_is : (s : List ℕ) (f : Sheet) → Sound s f → (tree_of (doc_of s)).size ≡ f.tokens
unfolding tree_of
size_is s f z = z.tokens
