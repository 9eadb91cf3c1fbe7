-- The chains: where an entry stands in one, one turn of a walk along it, and a name entered.
use mathlib.Core.Path.{◌≡◌, ◌∙◌, refl, sym, ap, subst}
use mathlib.Core.Bool.{Bool, true, false}
use mathlib.Core.Logic.{⊎_elim}
use mathlib.Core.List.{List}
use Prim.Native.Nat.{ℕ, zero, suc, ◌+◌, ◌-◌, ◌*◌, ◌/◌, ◌%◌, ◌≤◌, ◌<◌}
use native.Mathlib.Omega.{arith}
use native.Mathlib.Numerals.{add-one}
use borrow.Author.Tests.{eqb-true, eq-eqb, ne_eqb}
use lib.Bits.{bit_and}
use lib.Dec.{eqb}
use lib.ListN.{length, get_or, set, replicate, length-set, length-replicate, get_or-replicate}
use lib.Seq.{get_or-set_same, get_or-set_other}
use Rattle.lists.specs.Lists.{pick, both}
use Rattle.lists.proofs.Tests.{never, below, both_true, true-both}
use Rattle.text.specs.Text.{same_text}
use Rattle.text.proofs.Laws.{same-is, same_refl}
use Rattle.numbers.specs.Least.{text_at, least_same}
use Rattle.numbers.specs.Chains.{hash_of, chain_of, is_first, last_in, Heads, Links}
use Rattle.numbers.proofs.Laws.{least-low, least-text, same-least}

-- ---- texts of two hashes are two
pub apart-hashes : (a b : List ℕ) (x y : ℕ) → x ≡ hash_of b → y ≡ hash_of a → (x ≡ y → ⊥) → false ≡ same_text a b
apart-hashes a b x y ex ey h = go (same_text a b) refl
  where
    go : (q : Bool) → same_text a b ≡ q → false ≡ q
    go true e = absurd (h (ex ∙ ap hash_of (sym (same-is a b e)) ∙ sym ey))
    go false e = refl

pub chain-is : (top : ℕ) (t : List ℕ) (h b : ℕ) → h ≡ hash_of t → b ≡ bit_and h top → b ≡ chain_of top t
unfolding chain_of
chain-is top t h b eh eb = eb ∙ ap (λ (x : ℕ). bit_and x top) eh

-- ---- the first of its text
module _ (ts : List (List ℕ)) where
  pub first-is : (r : ℕ) → is_first ts r ≡ true → least_same ts r ≡ r
  unfolding is_first
  first-is r e = eqb-true _ _ e

  pub is-first : (r : ℕ) → least_same ts r ≡ r → is_first ts r ≡ true
  unfolding is_first
  is-first r e = eq-eqb _ _ e

  pub not_first : (r : ℕ) → (least_same ts r ≡ r → ⊥) → is_first ts r ≡ false
  unfolding is_first
  not_first r e = ne_eqb _ _ e

  pub least_first : (i : ℕ) → i < length ts → is_first ts (least_same ts i) ≡ true
  least_first i h = is-first (least_same ts i) (same-least ts (least_same ts i) i (least-text ts i h))

-- ---- the last entry of a chain
module _ (top : ℕ) (ts : List (List ℕ)) where
  last-low : (b n : ℕ) → last_in top ts b n ≤ n
  unfolding last_in
  last-low b zero = omega arith
  last-low b (suc n) = go (both (is_first ts n) (eqb (chain_of top (text_at ts n)) b)) (last-low b n)
    where
      go : (q : Bool) → last_in top ts b n ≤ n → pick q (suc n) (last_in top ts b n) ≤ suc n
      go true l = omega arith
      go false l = omega arith

  last-is : (b n r : ℕ) → last_in top ts b n ≡ suc r → (is_first ts r ≡ true) × (chain_of top (text_at ts r) ≡ b)
  unfolding last_in
  last-is b zero r e = absurd (omega arith)
  last-is b (suc n) r e = go (both (is_first ts n) (eqb (chain_of top (text_at ts n)) b)) refl (last-is b n r) e
    where
      go : (q : Bool) → both (is_first ts n) (eqb (chain_of top (text_at ts n)) b) ≡ q → (last_in top ts b n ≡ suc r → (is_first ts r ≡ true) × (chain_of top (text_at ts r) ≡ b))
          → pick q (suc n) (last_in top ts b n) ≡ suc r → (is_first ts r ≡ true) × (chain_of top (text_at ts r) ≡ b)
      go true p f o =
          let k : n ≡ r = omega arith in
          let w = both_true _ _ p in
          subst (λ (m : ℕ). (is_first ts m ≡ true) × (chain_of top (text_at ts m) ≡ b)) k (w.0, eqb-true _ _ w.1)
      go false p f o = f o

  pub last-above : (b n p : ℕ) → p < n → is_first ts p ≡ true → chain_of top (text_at ts p) ≡ b → p < last_in top ts b n
  unfolding last_in
  last-above b zero p h e c = absurd (omega arith)
  last-above b (suc n) p h e c = go (both (is_first ts n) (eqb (chain_of top (text_at ts n)) b)) refl (λ l. last-above b n p l e c)
    where
      go : (q : Bool) → both (is_first ts n) (eqb (chain_of top (text_at ts n)) b) ≡ q → (p < n → p < last_in top ts b n) → p < pick q (suc n) (last_in top ts b n)
      go true o f = omega arith
      go false o f = ⊎_elim
          f
          (λ l.
          let k : p ≡ n = omega arith in
          let t : both (is_first ts p) (eqb (chain_of top (text_at ts p)) b) ≡ true = true-both e (eq-eqb _ _ c) in
          never (sym o ∙ subst (λ (m : ℕ). both (is_first ts m) (eqb (chain_of top (text_at ts m)) b) ≡ true) k t))
          (below p n)

-- ---- a walk along the chain of text i: an entry of it, where no entry behind it has the text
pub record Walk (top : ℕ) (ts : List (List ℕ)) (i at : ℕ) : Type 0 where
  pub low : at ≤ i
  pub entry : (r : ℕ) → at ≡ suc r → (is_first ts r ≡ true) × (chain_of top (text_at ts r) ≡ chain_of top (text_at ts i))
  pub left : least_same ts i < i → least_same ts i < at

module _ (top : ℕ) (ts : List (List ℕ)) (i : ℕ) (h : i < length ts) where
  -- the last entry below n, where the text's least number is not from n on
  walk_at : (n : ℕ) → n ≤ i → (least_same ts i < i → least_same ts i < n) → Walk top ts i (last_in top ts (chain_of top (text_at ts i)) n)
  walk_at n l f =
      record {
        low = omega (arith, last-low top ts (chain_of top (text_at ts i)) n);
        entry = last-is top ts (chain_of top (text_at ts i)) n;
        left = λ p. last-above top ts (chain_of top (text_at ts i)) n (least_same ts i) (f p) (least_first ts i h) (ap (chain_of top) (least-text ts i h));
      }

  pub walk_start : (name : List ℕ) (last : ℕ) → name ≡ text_at ts i → last ≡ last_in top ts (chain_of top name) i → Walk top ts i last
  walk_start name last en el = rw (el, en) (walk_at i (omega arith) (λ p. p))

  module _ (name : List ℕ) (en : name ≡ text_at ts i) (at : ℕ) (w : Walk top ts i at) (Some : at ≡ 0 → ⊥) where
    entered : at ≡ suc (at - 1)
    entered = omega arith

    pub walk-hit : (q : Bool) → q ≡ same_text name (text_at ts (at - 1)) → q ≡ true → at - 1 ≡ least_same ts i
    walk-hit q e g =
        let s : name ≡ text_at ts (at - 1) = same-is name (text_at ts (at - 1)) (sym e ∙ g) in
        sym (first-is ts (at - 1) (w.entry (at - 1) entered).0) ∙ same-least ts (at - 1) i (sym s ∙ en)

    module _ (few : i < 65536) (links : List ℕ) (z : Links top ts i links) (k : ℕ) (ek : k ≡ at - 1) where
      link-is : get_or links k 0 ≡ hash_of (text_at ts (at - 1)) * 65536 + last_in top ts (chain_of top (text_at ts i)) (at - 1)
      link-is =
          let v = w.entry (at - 1) entered in
          rw ek (z.each (at - 1) (omega (arith, w.low)) v.0 ∙ ap (λ (b : ℕ). hash_of (text_at ts (at - 1)) * 65536 + last_in top ts b (at - 1)) v.1)

      pub link-hash : get_or links k 0 / 65536 ≡ hash_of (text_at ts (at - 1))
      link-hash = omega (arith, link-is, w.low, last-low top ts (chain_of top (text_at ts i)) (at - 1))

      pub link-next : get_or links k 0 % 65536 ≡ last_in top ts (chain_of top (text_at ts i)) (at - 1)
      link-next = omega (arith, link-is, w.low, last-low top ts (chain_of top (text_at ts i)) (at - 1))

      pub walk-less : (x : ℕ) → x ≡ get_or links k 0 % 65536 → x < at
      walk-less x ex = omega (arith, link-next, last-low top ts (chain_of top (text_at ts i)) (at - 1))

      pub walk-on : (x : ℕ) → x ≡ get_or links k 0 % 65536 → (q : Bool) → q ≡ same_text name (text_at ts (at - 1)) → q ≡ false → Walk top ts i x
      walk-on x ex q e g = rw (ex, link-next) (walk_at (at - 1) (omega (arith, w.low)) passed)
        where
          passed : least_same ts i < i → least_same ts i < at - 1
          passed p = ⊎_elim
              (λ l. l)
              (λ l.
              let m : least_same ts i ≡ at - 1 = omega (arith, w.left p) in
              let t : name ≡ text_at ts (at - 1) = en ∙ sym (least-text ts i h) ∙ ap (text_at ts) m in
              let u : same_text name (text_at ts (at - 1)) ≡ true = subst (λ (x : List ℕ). same_text name x ≡ true) t (same_refl name) in
              never (sym g ∙ e ∙ u))
              (below (least_same ts i) (at - 1))

  pub walk_end : (at : ℕ) → Walk top ts i at → at ≡ 0 → i ≡ least_same ts i
  walk_end at w e = ⊎_elim
      (λ p. absurd (omega (arith, w.left p)))
      (λ l. omega (arith, least-low ts i h))
      (below (least_same ts i) i)

-- ---- name i entered, or not, as it is the first of its text or not
module _ (top : ℕ) (ts : List (List ℕ)) (i : ℕ) (name : List ℕ) (en : name ≡ text_at ts i) (heads links : List ℕ) (zh : Heads top ts i heads) (zn : Links top ts i links)
    (hash b : ℕ) (eh : hash ≡ hash_of name) (eb : (b ≡ bit_and hash top) × (b ≤ top)) where
  chain-b : b ≡ chain_of top name
  chain-b = chain-is top name hash b eh eb.0

  pub last_of : (last : ℕ) → last ≡ get_or heads b 0 → last ≡ last_in top ts (chain_of top name) i
  last_of last e = e ∙ zh.each b eb.1 ∙ ap (λ (a : ℕ). last_in top ts a i) chain-b

  module _ (least : ℕ) (el : least ≡ least_same ts i) (k : ℕ) (ek : k ≡ i) where
    stored : (ids : List ℕ) → set ids k least ≡ set ids i (least_same ts i)
    stored ids = rw (ek, el)

    module _ (other : least ≡ i → ⊥) where
      not-one : least_same ts i ≡ i → ⊥
      not-one e = other (el ∙ e)

      heads-same : Heads top ts (i + 1) heads
      unfolding last_in
      heads-same = record { few = zh.few; all = zh.all; each = λ a l. rw (add-one i, not_first ts i not-one) (zh.each a l) }

      links-same : Links top ts (i + 1) links
      links-same = record {
        each = λ r l e. ⊎_elim
            (λ p. zn.each r p e)
            (λ p. let m : r ≡ i = omega arith in absurd (not-one (first-is ts i (subst (λ (x : ℕ). is_first ts x ≡ true) m e))))
            (below r i);
      }

      pub name-passed : (ids : List ℕ) → (set ids k least ≡ set ids i (least_same ts i)) × (Heads top ts (i + 1) heads × Links top ts (i + 1) links)
      name-passed ids = (stored ids, (heads-same, links-same))

    module _ (one : least ≡ i) where
      is_one : least_same ts i ≡ i
      is_one = sym el ∙ one

      chain-at : (a : ℕ) → a ≤ top → (q : Bool) → eqb (chain_of top (text_at ts i)) a ≡ q → get_or (set heads b (suc i)) a 0 ≡ pick q (suc i) (last_in top ts a i)
      chain-at a l true o =
          let m : a ≡ b = sym (chain-b ∙ ap (chain_of top) en ∙ eqb-true _ _ o) in
          rw m (get_or-set_same heads b (suc i) 0 (omega (arith, zh.all, eb.1)))
      chain-at a l false o =
          get_or-set_other heads b a (suc i) 0 (λ m. never (sym o ∙ eq-eqb _ _ (sym (m ∙ chain-b ∙ ap (chain_of top) en)))) ∙ zh.each a l

      heads-more : (e : ℕ) → e ≡ i + 1 → Heads top ts (i + 1) (set heads b e)
      unfolding last_in
      heads-more e ee =
          rw ee (record {
            few = zh.few;
            all = length-set heads b (i + 1) ∙ zh.all;
            each = λ a l. rw (add-one i, is-first ts i is_one) (chain-at a l (eqb (chain_of top (text_at ts i)) a) refl);
          })

      links-more : i < length links → (last wide : ℕ) → last ≡ get_or heads b 0 → wide ≡ last → Links top ts (i + 1) (set links k (hash * 65536 + wide))
      links-more h last wide e ew = rw ek (record {
        each = λ r l f. ⊎_elim
            (λ p. get_or-set_other links i r (hash * 65536 + wide) 0 (λ m. omega arith) ∙ zn.each r p f)
            (λ p.
            let m : r ≡ i = omega arith in
            rw m (get_or-set_same links i (hash * 65536 + wide) 0 h ∙ ap (λ (x : ℕ). x * 65536 + wide) (eh ∙ ap hash_of en)
            ∙ ap (λ (x : ℕ). hash_of (text_at ts i) * 65536 + x) (ew ∙ last_of last e ∙ ap (λ (x : List ℕ). last_in top ts (chain_of top x) i) en)))
            (below r i);
      })

      pub name-entered : (ids : List ℕ) (e last wide : ℕ) → e ≡ i + 1 → last ≡ get_or heads b 0 → wide ≡ last → i < length links
          → (set ids k least ≡ set ids i (least_same ts i)) × (Heads top ts (i + 1) (set heads b e) × Links top ts (i + 1) (set links k (hash * 65536 + wide)))
      name-entered ids e last wide ee el ew h = (stored ids, (heads-more e ee, links-more h last wide el ew))

-- ---- no name yet
pub heads-none : (n : ℕ) (ts : List (List ℕ)) → 0 < n → n ≤ 65536 → Heads (n - 1) ts 0 (replicate n 0)
unfolding last_in
heads-none n ts h g = record {
  few = omega arith;
  all = omega (arith, length-replicate {A = ℕ} n 0);
  each = λ b l. get_or-replicate {A = ℕ} n b 0 0 (omega arith);
}

pub links-none : (top : ℕ) (ts : List (List ℕ)) (links : List ℕ) → Links top ts 0 links
links-none top ts links = record { each = λ r l e. absurd (omega arith) }
