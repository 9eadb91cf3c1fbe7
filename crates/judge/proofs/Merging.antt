-- What a merged element's keys say, from what the code reads.
use mathlib.Core.Bool.{Bool, true, false, not}
use mathlib.Core.Logic.{⊎_elim}
use mathlib.Core.Path.{◌≡◌, refl, sym, ap, ◌∙◌, subst}
use mathlib.Core.List.{List, [], ◌∷◌}
use Prim.Native.Nat.{ℕ, zero, suc, ◌+◌, ◌*◌, ◌≤◌, ◌<◌}
use native.Mathlib.Omega.{arith}
use borrow.Author.Tests.{eq-eqb, ne_eqb}
use lib.ListN.{length, get_or, take, set}
use lib.Seq.{length-take-le, get_or-take, get_or-set_same, get_or-set_other}
use lib.Dec.{eqb}
use Rattle.lists.specs.Lists.{pick, both, table, any_of, all_of}
use Rattle.lists.proofs.Tests.{below}
use Rattle.text.specs.Text.{is_text}
use Rattle.frame.specs.Doc.{Doc, kind_of, name_of, value_of}
use Rattle.frame.specs.Inner.{texts_of, Numbers}
use Rattle.rules.specs.declared.Place.TheVariants.{WholeStatement}
use Rattle.grammar.specs.Machine.{grammar_fault}
use Rattle.grammar.specs.Tree.{Tree, tree_of, past, end, child}
use Rattle.grammar.specs.Inner.{NameAt}
use Rattle.grammar.proofs.Places.{past-le, end-gt}
use Rattle.grammar.proofs.Flat.{tree-value, tree-text}
use Rattle.provider.specs.Schema.{Schema, tuples_of}
use Rattle.provider.specs.Inner.{backing_of}
use Rattle.provider.specs.declared.Backing.{Backing}
use Rattle.provider.specs.declared.Backing.TheVariants.{NoTuple, Unbacked, Backed}
use Rattle.breach.specs.Breach.{Item, item_at, holder, names_of, props_of, keys_of, owners}
use Rattle.breach.specs.Listing.{is_keyed, when, keyless, late}
use Rattle.judge.specs.Merged.{unbacked_by, Collected}
use Rattle.judge.proofs.Keyed.{key-name, pick-off}
use Rattle.std.specs.Prelude.{None}

-- numbers whose names are g's first n
pub collected : (d : Doc) (g : ℕ → List ℕ) (a n : ℕ) (ks : List ℕ) → n ≤ length ks
    → ((k : ℕ) → k < n → name_of d (get_or ks k 0) ≡ g (a + k)) → texts_of d (take n ks) ≡ table g a n
unfolding table
collected d g a zero ks h e = refl
collected d g a (suc n) [] h e = absurd (omega arith)
collected d g a (suc n) (x ∷ ks) h e =
    let z : a + 0 ≡ a = omega arith in
    let p : name_of d x ≡ g a = e 0 (omega arith) ∙ ap g z in
    let r = collected d g (suc a) n ks (omega arith) (λ k l. let y : a + suc k ≡ suc a + k = omega arith in e (suc k)
    (omega arith) ∙ ap g y) in
    rw (p, r)

-- ---- stage 3
module _ (t : Tree) (s : Schema) (i : ℕ) where
  pub keyless-is : (us : List (List (List ℕ))) → when (unbacked_by (backing_of us (keys_of t i))) (item_at t i 3009 3 0)
      ≡ keyless t s i us
  unfolding keyless backing_of
  keyless-is [] = refl
  keyless-is (u ∷ us) = go (any_of (λ x. all_of (is_text (keys_of t i)) x) (u ∷ us))
    where
      go : (b : Bool) → when (unbacked_by (pick b Backed Unbacked)) (item_at t i 3009 3 0) ≡ when (not b)
          (item_at t i 3009 3 0)
      go true = refl
      go false = refl

  keyed-on : (a b : Bool) (xs : List Item) → b ≡ true → pick a xs [] ≡ pick (both a b) xs []
  keyed-on true b xs e = rw e
  keyed-on false b xs e = refl

  pub late-unmerged : (h : ℕ) → h ≡ holder t i → (h ≡ 72 → ⊥) → [] ≡ late t s i
  unfolding late
  late-unmerged h e n = pick-off (is_keyed t i) (eqb (holder t i) 72) _ (rw (← e) (ne_eqb h 72 n))

  pub late-merged : (h : ℕ) → h ≡ holder t i → h ≡ 72 → pick (is_keyed t i)
      (keyless t s i (tuples_of (owners s (t.kind i)) (names_of t i))) [] ≡ late t s i
  unfolding late
  late-merged h e n = keyed-on (is_keyed t i) (eqb (holder t i) 72) _ (rw (← e) (eq-eqb h 72 n))

  pub keyless-when : (us : List (List (List ℕ))) (r b : Bool) → r ≡ unbacked_by (backing_of us (keys_of t i)) → r ≡ b
      → when b (item_at t i 3009 3 0) ≡ keyless t s i us
  keyless-when us r b e h = ap (λ (x : Bool). when x (item_at t i 3009 3 0)) (sym h ∙ e) ∙ keyless-is us

-- ---- places in an accepted document
pub end-past : (d : Doc) (j : ℕ) → j < length d.tokens → j < end (tree_of d) j
unfolding tree_of
end-past d j h = end-gt (tree_of d) j h

pub past-inside : (d : Doc) (n i : ℕ) → i ≤ length d.tokens → past (tree_of d) n i ≤ length d.tokens
unfolding tree_of
past-inside d n i h = past-le (tree_of d) n i h

-- ---- one number more
pub stored-each : (ks : List ℕ) (k v : ℕ) (g : ℕ → ℕ) → k < length ks → v ≡ g k
    → ((j : ℕ) → j < k → get_or ks j 0 ≡ g j) → (j : ℕ) → j < k + 1 → get_or (set ks k v) j 0 ≡ g j
stored-each ks k v g h e a j l = ⊎_elim
    (λ p. get_or-set_other ks k j v 0 (λ q. omega arith) ∙ a j p)
    (λ p. let z : k ≡ j = omega arith in subst (λ (m : ℕ). get_or (set ks k v) m 0 ≡ g m) z
    (get_or-set_same ks k v 0 h ∙ e))
    (below j k)

-- ---- the keys that were collected
module _ (d : Doc) (h : grammar_fault WholeStatement d ≡ None) (m n : ℕ) (ks : List ℕ) (b : m < length d.tokens)
    (e : kind_of d m ≡ 14) (c : Collected d m n ks) where
  key-there : (k : ℕ) → k < n → NameAt d (child (tree_of d) m (2 * k))
  key-there k l = key-name d h m b e k (omega (arith, c.all)) (child (tree_of d) m (2 * k)) refl

  pub numbers-are : (x : ℕ) → x ≡ n → Numbers d (take x ks)
  numbers-are x z i l =
      let y : i < n = omega (arith, length-take-le x ks (omega (arith, c.room))) in
      let g : get_or (take x ks) i 0 ≡ value_of d (child (tree_of d) m (2 * i)) = get_or-take x ks i 0 (omega arith) ∙ c.each i y in
      rw g (key-there i y).below

  pub keys-are : (x i : ℕ) → x ≡ n → m ≡ props_of (tree_of d) i → texts_of d (take x ks) ≡ keys_of (tree_of d) i
  keys-are x i z p =
      let v : n ≡ (tree_of d).value m = c.all ∙ sym (tree-value d m (λ q. omega arith)) in
      let g : texts_of d (take n ks) ≡ table (λ (k : ℕ). (tree_of d).text (child (tree_of d) m (2 * k))) 0 n =
      collected d (λ (k : ℕ). (tree_of d).text (child (tree_of d) m (2 * k))) 0 n ks c.room
      (λ k l. let y : k ≡ 0 + k = omega arith in
      ap (name_of d) (c.each k l) ∙ sym (tree-text d (child (tree_of d) m (2 * k)) (key-there k l).kind) ∙ ap
      (λ (j : ℕ). (tree_of d).text (child (tree_of d) m (2 * j))) y) in
      ap (λ (j : ℕ). texts_of d (take j ks)) z
      ∙ g
      ∙ ap (table (λ (k : ℕ). (tree_of d).text (child (tree_of d) m (2 * k))) 0) v
      ∙ ap (λ (j : ℕ). table (λ (k : ℕ). (tree_of d).text (child (tree_of d) j (2 * k))) 0 ((tree_of d).value j)) p

-- the answer, from what was found with the keys collected
pub unbacked-by : (us : List (List (List ℕ))) (ks ls : List (List ℕ)) (q a : Backing) → ks ≡ ls → q ≡ backing_of us ks
    → q ≡ a → unbacked_by a ≡ unbacked_by (backing_of us ls)
unbacked-by us ks ls q a k e f = ap unbacked_by (sym f ∙ e ∙ ap (backing_of us) k)

pub not-unbacked : (a : Backing) → (a ≡ Unbacked → ⊥) → false ≡ unbacked_by a
not-unbacked NoTuple h = refl
not-unbacked Backed h = refl
not-unbacked Unbacked h = absurd (h refl)
