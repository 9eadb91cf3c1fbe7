-- Lists of items that are moved on: they keep their order, and say the same.
use mathlib.Core.Path.{◌≡◌, refl, sym, ap, subst}
use mathlib.Core.Logic.{inl, inr}
use mathlib.Core.List.{List, [], ◌∷◌, map, Memᴰ}
use Prim.Native.Nat.{ℕ, zero, suc, ◌+◌}
use native.Mathlib.Nat.{zero-add}
use native.Mathlib.Omega.{arith}
use Rattle.lists.specs.Lists.{nth}
use Rattle.lists.proofs.Laws.{over_none}
use Rattle.lists.proofs.Joins.{map-mem}
use Rattle.grammar.specs.Tree.{Tree}
use Rattle.provider.specs.Schema.{Schema}
use Rattle.breach.specs.Breach.{Item}
use Rattle.breach.specs.Listing.{listed}
use Rattle.breach.specs.Order.{whole_key, Precedes, Ascending}
use Rattle.message.specs.Message.{message_of}
use Rattle.message.specs.Said.{item_effect}
use Rattle.moving.specs.Moved.{moved_on}

-- two items
pub moved-precedes : (n c : ℕ) (x y : Item) → Precedes (whole_key x) (whole_key y)
    → Precedes (whole_key (moved_on n c x)) (whole_key (moved_on n c y))
moved-precedes n c x y (inl h) = inl (omega arith)
moved-precedes n c x y (inr (e, inl h)) = inr (ap (λ (k : ℕ). c + k) e, inl h)
moved-precedes n c x y (inr (e, inr (f, inl h))) = inr (ap (λ (k : ℕ). c + k) e, inr (f, inl (omega arith)))
moved-precedes n c x y (inr (e, inr (f, inr (g, h)))) =
    inr (ap (λ (k : ℕ). c + k) e, inr (f, inr (ap (λ (k : ℕ). n + k) g, h)))

-- lists of them
pub moved-ascends : (n c : ℕ) (l : List Item) → Ascending whole_key l → Ascending whole_key (map (moved_on n c) l)
moved-ascends n c [] a = tt
moved-ascends n c (x ∷ l) a = (
  (λ y m. let r = map-mem (moved_on n c) l m in
      subst (λ (z : Item). Precedes (whole_key (moved_on n c x)) (whole_key z)) (sym r.2)
      (moved-precedes n c x r.0 (a.0 r.0 r.1))),
  moved-ascends n c l a.1,
)

-- what is said of number k of a list, where each item says the same elsewhere
pub said_same : (t u : Tree) (s : Schema) (f : Item → Item) (l : List Item) (k : ℕ) (text : List ℕ)
    → ((i : Item) → Memᴰ i l → message_of u s (f i) ≡ message_of t s i)
    → item_effect u s (nth (map f l) k) text ≡ item_effect t s (nth l k) text
unfolding nth
said_same t u s f [] k text h = refl
said_same t u s f (i ∷ l) zero text h = rw (h i (Memᴰ.head refl))
said_same t u s f (i ∷ l) (suc k) text h = said_same t u s f l k text (λ j m. h j (Memᴰ.tail m))

-- nothing is moved on by nothing
pub unmoved : (l : List Item) → map (moved_on 0 0) l ≡ l
unmoved [] = refl
unmoved (i ∷ l) = rw (zero-add i.owner, zero-add i.clause, unmoved l)

-- a statement without clauses has no items
pub no_items : (t : Tree) (s : Schema) → t.value 0 ≡ 0 → listed t s ≡ []
unfolding listed
no_items t s e = over_none _ 0 (t.value 0) (omega arith)
