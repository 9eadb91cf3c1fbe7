-- What a window of one item shows.
use mathlib.Core.Path.{◌≡◌, refl, sym, ap, ◌∙◌}
use mathlib.Core.Logic.{⊎_elim}
use mathlib.Core.List.{List, [], ◌∷◌, append-nil, Memᴰ}
use Prim.Native.Nat.{ℕ, zero, suc, ◌+◌, ◌-◌, ◌/◌, ◌≤◌, ◌<◌}
use native.Mathlib.Omega.{arith}
use lib.ListN.{length, get_or}
use Rattle.lists.specs.Lists.{nth}
use Rattle.lists.proofs.Tests.{below}
use Rattle.lists.proofs.Laws.{rest-none}
use Rattle.grammar.specs.Tree.{Tree}
use Rattle.grammar.proofs.Formed.{Rooted}
use Rattle.provider.specs.Schema.{Schema}
use Rattle.breach.specs.Breach.{Item, numbers}
use Rattle.breach.specs.Listing.{listed}
use Rattle.breach.proofs.Whole.{owner-clause}
use Rattle.judge.specs.Judging.{item_of, item_in}
use Rattle.judge.specs.Window.{put, window, ToldItems}
use Rattle.judge.proofs.Wrote.{put-before, put_full, put-fits}
use Rattle.std.specs.Prelude.{Some, None}

-- no item k
pub item-none : (xs : List Item) (k : ℕ) → length xs ≤ k → nth xs k ≡ None
unfolding nth
item-none [] k h = refl
item-none (x ∷ xs) zero h = absurd (omega arith)
item-none (x ∷ xs) (suc k) h = item-none xs k (omega arith)

-- items past the window
window-past : (k n : ℕ) (xs : List Item) (l : List ℕ) → length l ≡ 7 → k < n → window k n xs l ≡ l
unfolding window
window-past k n [] l e h = refl
window-past k n (x ∷ xs) l e h =
    ap (window k (suc n) xs) (put_full k n x l (omega arith) (omega arith)) ∙ window-past k (suc n) xs l e (omega arith)

-- item x of the list is number k, and the window shows it
pub record Shown (xs : List Item) (k : ℕ) (l : List ℕ) : Type 0 where
  pub item : Item
  pub here : nth xs k ≡ Some item
  pub among : Memᴰ item xs
  pub shows : l ≡ numbers item

put-shown : (k : ℕ) (x : Item) (l : List ℕ) → length l ≡ 7 → put k k x l ≡ numbers x
put-shown k x l e =
    let z : k - k ≡ 0 = omega arith in
    let m : k - k < length l / 7 = omega arith in
    put-fits k k x l (omega arith) m ∙ rw (z, rest-none l 7 (omega arith)) (append-nil (numbers x))

shown : (k n : ℕ) (xs : List Item) (l : List ℕ) → length l ≡ 7 → n ≤ k → k < n + length xs → Shown xs (k - n)
    (window k n xs l)
unfolding window nth
shown k n [] l e a b = absurd (omega arith)
shown k n (x ∷ xs) l e a b = ⊎_elim
    (λ h. let r = shown k (suc n) xs l e (omega arith) (omega arith) in
    let z : k - n ≡ suc (k - suc n) = omega arith in
    record {
      item = r.item;
      here = rw z r.here;
      among = Memᴰ.tail r.among;
      shows = ap
          (window k (suc n) xs) (put-before k n x l h) ∙ r.shows;
    })
    (λ h. let q : n ≡ k = omega arith in
    let z : k - n ≡ 0 = omega arith in
    record {
      item = x;
      here = rw z;
      among = Memᴰ.head refl;
      shows = rw q
          (ap (window k (suc k) xs) (put-shown k x l e) ∙ window-past k (suc k) xs (numbers x) refl (omega arith));
    })
    (below n k)

pub window-shows : {xs : List Item} {k n : ℕ} {l m : List ℕ} → ToldItems xs k l n m → length l ≡ 7 → k < n
    → Shown xs k m
window-shows {xs} {k} {n} {l} {m} w e h =
    let r = shown k 0 xs l e (omega arith) (omega (arith, w.count)) in
    let z : k - 0 ≡ k = omega arith in
    record { item = r.item; here = ap (nth xs) (sym z) ∙ r.here; among = r.among; shows = w.list ∙ r.shows }

-- the entry that was read from the window, in the clause of its owner
pub entry-is : (t : Tree) (s : Schema) {k : ℕ} {l : List ℕ} → Rooted 90 t → (r : Shown (listed t s) k l)
    → item_in t (record {
      code = get_or l 0 0;
      start = get_or l 1 0;
      end = get_or l 2 0;
      owner = get_or l 3 0;
      stage = get_or l 4 0;
      ordinal = get_or l 5 0;
    }) ≡ r.item
entry-is t s o r =
    rw r.shows (ap (item_of _) (sym (owner-clause t s o r.item r.among)))
