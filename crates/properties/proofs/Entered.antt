-- What tokens that are entered by the numbers of their names come to.
use mathlib.Core.Path.{◌≡◌, ◌∙◌, refl, sym, ap, subst}
use mathlib.Core.Bool.{Bool, true, false}
use mathlib.Core.Logic.{⊎_elim}
use mathlib.Core.List.{List, [], ◌∷◌, ◌++◌, Memᴰ}
use Prim.Native.Nat.{ℕ, zero, suc, ◌+◌, ◌≤◌, ◌<◌}
use native.Mathlib.Omega.{arith}
use borrow.Author.Tests.{ne_eqb}
use lib.Dec.{eqb}
use lib.ListN.{length, get_or, set, length-set}
use lib.Seq.{get_or-set_same, get_or-set_other}
use Rattle.lists.specs.Lists.{pick, first}
use Rattle.lists.proofs.Tests.{never, true-or-false}
use Rattle.text.specs.Text.{same_text}
use Rattle.text.proofs.Laws.{same-is, same_refl}
use Rattle.grammar.specs.Tree.{Tree}
use Rattle.schema.specs.Declarations.{name_below}
use Rattle.schema.proofs.Searches.{none-mem}
use Rattle.numbers.specs.Least.{text_at, place_of}
use Rattle.numbers.proofs.Laws.{place_at, place-low}
use Rattle.register.specs.Register.{entry_of}
use Rattle.register.proofs.Entries.{or_next}
use Rattle.properties.specs.Entering.{entered_at, entered_each, EntriesOf}
use Rattle.std.specs.Prelude.{Option, Some, None}

-- an entry, or where there is none the next
abbrev or_entry : ℕ → ℕ → ℕ
or_entry w e = pick (eqb w 0) e w

or-none : (w : ℕ) → w ≡ or_entry w 0
or-none zero = refl
or-none (suc w) = rw (ne_eqb (suc w) 0 (λ z. omega arith))

module _ (ts : List (List ℕ)) (t : Tree) where
  at_length : (p : ℕ) (l : List ℕ) → length (entered_at ts t p l) ≡ length l
  unfolding entered_at
  at_length p l = go (eqb (get_or l (place_of ts (name_below t p)) 0) 0)
    where
      go : (q : Bool) → length (pick q (set l (place_of ts (name_below t p)) (p + 1)) l) ≡ length l
      go true = length-set l (place_of ts (name_below t p)) (p + 1)
      go false = refl

  pub each-length : (ps l : List ℕ) → length (entered_each ts t ps l) ≡ length l
  unfolding entered_each
  each-length [] l = refl
  each-length (p ∷ ps) l = each-length ps (entered_at ts t p l) ∙ at_length p l

  pub each_append : (as' bs l : List ℕ) → entered_each ts t (as' ++ bs) l ≡ entered_each ts t bs (entered_each ts t as' l)
  unfolding entered_each
  each_append [] bs l = refl
  each_append (p ∷ as') bs l = each_append as' bs (entered_at ts t p l)

  -- ---- at the number of text m
  module _ (m : ℕ) (h : m < length ts) where
    place-below : place_of ts (text_at ts m) < length ts
    place-below = omega (arith, place-low ts (text_at ts m) m h refl)

    same_place : (x : List ℕ) → place_of ts x ≡ place_of ts (text_at ts m) → x ≡ text_at ts m
    same_place x e =
        sym (place_at ts x (omega (arith, place-below))) ∙ ap (text_at ts) e
        ∙ place_at ts (text_at ts m) place-below

    after_one : (p : ℕ) (l : List ℕ) → length ts ≤ length l
        → get_or (entered_at ts t p l) (place_of ts (text_at ts m)) 0
        ≡ or_next (get_or l (place_of ts (text_at ts m)) 0) (same_text (text_at ts m) (name_below t p)) (p + 1)
    unfolding entered_at
    after_one p l room = ⊎_elim same other (true-or-false (same_text (text_at ts m) (name_below t p)))
      where
        x : ℕ
        x = place_of ts (text_at ts m)

        kept : (q : Bool) → (place_of ts (text_at ts m) ≡ place_of ts (name_below t p) → ⊥)
            → get_or (pick q (set l (place_of ts (name_below t p)) (p + 1)) l) (place_of ts (text_at ts m)) 0
            ≡ get_or l (place_of ts (text_at ts m)) 0
        kept true n = get_or-set_other l (place_of ts (name_below t p)) (place_of ts (text_at ts m)) (p + 1) 0 n
        kept false n = refl

        put : (q : Bool) → get_or (pick q (set l (place_of ts (text_at ts m)) (p + 1)) l) (place_of ts (text_at ts m)) 0
            ≡ pick q (p + 1) (get_or l (place_of ts (text_at ts m)) 0)
        put true = get_or-set_same l (place_of ts (text_at ts m)) (p + 1) 0 (omega (arith, place-below))
        put false = refl

        same : same_text (text_at ts m) (name_below t p) ≡ true
            → get_or (pick (eqb (get_or l (place_of ts (name_below t p)) 0) 0) (set l (place_of ts (name_below t p)) (p + 1)) l)
            (place_of ts (text_at ts m)) 0
            ≡ or_next (get_or l (place_of ts (text_at ts m)) 0) (same_text (text_at ts m) (name_below t p)) (p + 1)
        same e =
            let q : name_below t p ≡ text_at ts m = sym (same-is (text_at ts m) (name_below t p) e) in
            rw (e, q) (put (eqb (get_or l (place_of ts (text_at ts m)) 0) 0))

        other : same_text (text_at ts m) (name_below t p) ≡ false
            → get_or (pick (eqb (get_or l (place_of ts (name_below t p)) 0) 0) (set l (place_of ts (name_below t p)) (p + 1)) l)
            (place_of ts (text_at ts m)) 0
            ≡ or_next (get_or l (place_of ts (text_at ts m)) 0) (same_text (text_at ts m) (name_below t p)) (p + 1)
        other e =
            kept (eqb (get_or l (place_of ts (name_below t p)) 0) 0)
            (λ o. never (sym e ∙ subst (λ (y : List ℕ). same_text (text_at ts m) y ≡ true) (sym (same_place (name_below t p) (sym o)))
            (same_refl (text_at ts m))))
            ∙ rw e (or-none (get_or l (place_of ts (text_at ts m)) 0))

    entries : (ps l : List ℕ) → length ts ≤ length l
        → get_or (entered_each ts t ps l) (place_of ts (text_at ts m)) 0
        ≡ or_entry (get_or l (place_of ts (text_at ts m)) 0) (entry_of (first (λ p. same_text (text_at ts m) (name_below t p)) ps))
    unfolding entered_each first
    entries [] l room = or-none (get_or l (place_of ts (text_at ts m)) 0)
    entries (p ∷ ps) l room =
        entries ps (entered_at ts t p l) (omega (arith, at_length p l))
        ∙ ap (λ (w : ℕ). or_entry w (entry_of (first (λ p. same_text (text_at ts m) (name_below t p)) ps))) (after_one p l room)
        ∙ go (get_or l (place_of ts (text_at ts m)) 0) (same_text (text_at ts m) (name_below t p))
        (first (λ p. same_text (text_at ts m) (name_below t p)) ps)
      where
        go : (w : ℕ) (q : Bool) (r : Option ℕ) → or_entry (or_next w q (p + 1)) (entry_of r) ≡ or_entry w (entry_of (pick q (Some p) r))
        go zero true r = rw (ne_eqb (p + 1) 0 (λ z. omega arith))
        go zero false r = refl
        go (suc w) q r = let e = ne_eqb (suc w) 0 (λ z. omega arith) in rw (e, e)

    -- a token that was entered with that name leaves an entry
    pub each-filled : (ps l : List ℕ) (p : ℕ) → Memᴰ p ps → length ts ≤ length l → name_below t p ≡ text_at ts m
        → get_or (entered_each ts t ps l) (place_of ts (name_below t p)) 0 ≡ 0 → ⊥
    each-filled ps l p o room e z =
        let q : same_text (text_at ts m) (name_below t p) ≡ true = rw e (same_refl (text_at ts m)) in
        go (get_or l (place_of ts (text_at ts m)) 0) (first (λ p. same_text (text_at ts m) (name_below t p)) ps) refl
        (sym (entries ps l room) ∙ (rw e at z)) q
      where
        go : (w : ℕ) (r : Option ℕ) → first (λ p. same_text (text_at ts m) (name_below t p)) ps ≡ r → or_entry w (entry_of r) ≡ 0
            → same_text (text_at ts m) (name_below t p) ≡ true → ⊥
        go w None f u q = never (sym (none-mem (λ p. same_text (text_at ts m) (name_below t p)) ps f o) ∙ q)
        go zero (Some j) f u q = omega arith
        go (suc w) (Some j) f u q = let k : suc w ≡ 0 = rw (ne_eqb (suc w) 0 (λ z. omega arith)) at u in omega arith

  -- into a list of 0 the first of each name is entered
  pub entries-of : (ps l : List ℕ) → ((i : ℕ) → get_or l i 0 ≡ 0) → length ts ≤ length l → EntriesOf ts t ps (entered_each ts t ps l)
  entries-of ps l zeros room =
      record {
        room = omega (arith, each-length ps l);
        each = λ m h. entries m h ps l room ∙ rw (zeros (place_of ts (text_at ts m)));
      }

  -- ---- tokens that have entries change nothing
  pub each-kept : (ps l : List ℕ) → ((p : ℕ) → Memᴰ p ps → get_or l (place_of ts (name_below t p)) 0 ≡ 0 → ⊥)
      → entered_each ts t ps l ≡ l
  unfolding entered_each entered_at
  each-kept [] l h = refl
  each-kept (p ∷ ps) l h =
      let e : eqb (get_or l (place_of ts (name_below t p)) 0) 0 ≡ false =
      ne_eqb (get_or l (place_of ts (name_below t p)) 0) 0 (h p (Memᴰ.head refl)) in
      ap (entered_each ts t ps) (rw e) ∙ each-kept ps l (λ q o. h q (Memᴰ.tail o))
