-- Laws of `WroteItems`: nothing written, one item, one list after another.
use mathlib.Core.Path.{◌≡◌, refl, sym, ap, ◌∙◌, subst}
use mathlib.Core.List.{List, [], ◌∷◌, ◌++◌, append_assoc, map, map-append, Memᴰ}
use mathlib.Core.Bool.{Bool, true, false}
use Prim.Native.Nat.{ℕ, suc, ◌+◌, ◌-◌, ◌*◌, ◌/◌, ◌≤◌, ◌<◌}
use native.Mathlib.Nat.{add-zero, zero-add, suc-add, add-suc}
use native.Mathlib.Omega.{arith}
use lib.ListN.{length, set, take, drop, length-append, length-take, length-drop, length-map}
use lib.Seq.{sets-eq}
use lib.Dec.{ltb, leb}
use borrow.Author.Tests.{ltb-true, lt-leb, le-leb, lt-ltb, le-ltb}
use Rattle.lists.specs.Lists.{pick}
use Rattle.breach.specs.Breach.{Item, numbers}
use Rattle.judge.specs.declared.Tally.{Tally}
use Rattle.judge.specs.Window.{stored, put, window, in_clause, WroteItems, ToldItems}

stored-length : (x : Item) (at : ℕ) (l : List ℕ) → at + 7 ≤ length l → length (stored x at l) ≡ length l
stored-length x at l h = simp (length-append, length-take, length-drop) (omega arith)

put-length : (from n : ℕ) (x : Item) (l : List ℕ) → length (put from n x l) ≡ length l
unfolding put
put-length from n x l = go (leb from n) (ltb (n - from) (length l / 7)) refl
  where
    go : (a b : Bool) → ltb (n - from) (length l / 7) ≡ b → length (pick a (pick b (stored x (7 * (n - from)) l) l) l)
        ≡ length l
    go true true e = let h = ltb-true (n - from) (length l / 7) e in stored-length x (7 * (n - from)) l (omega arith)
    go true false e = refl
    go false b e = refl

pub window-length : (from n : ℕ) (xs : List Item) (l : List ℕ) → length (window from n xs l) ≡ length l
unfolding window
window-length from n [] l = refl
window-length from n (x ∷ xs) l = window-length from (suc n) xs (put from n x l) ∙ put-length from n x l

window-join : (from n : ℕ) (xs ys : List Item) (l : List ℕ) → window from n (xs ++ ys) l ≡ window from (n + length xs)
    ys (window from n xs l)
unfolding window
window-join from n [] ys l = rw add-zero
window-join from n (x ∷ xs) ys l = rw (add-suc, ← suc-add, window-join from (suc n) xs ys (put from n x l))

pub wrote_none : {w : Tally} {l : List ℕ} → WroteItems [] w l w l
unfolding window
wrote_none = record { same = refl; clause = refl; count = omega arith; list = refl }

pub wrote-join : {w c e : Tally} {xs ys : List Item} {l m o : List ℕ} → WroteItems xs w l c m → WroteItems ys c m e o
    → WroteItems (xs ++ ys) w l e o
wrote-join {w} {c} {e} {xs} {ys} {l} {m} {o} p q = record {
  same = q.same ∙ p.same;
  clause = q.clause ∙ p.clause;
  count = omega (arith, length-append xs ys, p.count, q.count);
  list = q.list ∙ rw (map-append, window-join, length-map, p.same, p.clause, p.count, p.list);
}

-- the same items by another name
pub wrote_as : {w c : Tally} {xs ys : List Item} {l m : List ℕ} → xs ≡ ys → WroteItems xs w l c m → WroteItems ys w l c m
wrote_as {w} {c} {xs} {ys} {l} {m} e p = subst (λ (zs : List Item). WroteItems zs w l c m) e p

-- items that are the same but for their clauses
pub wrote-alike : {w c : Tally} {x y : Item} {l m : List ℕ} → in_clause w.clause x ≡ in_clause w.clause y
    → WroteItems (x ∷ []) w l c m → WroteItems (y ∷ []) w l c m
wrote-alike {w} {c} {x} {y} {l} {m} e p = record {
  same = p.same;
  clause = p.clause;
  count = p.count;
  list = p.list ∙ ap (λ (z : Item). window w.from w.count (z ∷ []) l) e;
}

pub wrote-length : {w c : Tally} {xs : List Item} {l m : List ℕ} → WroteItems xs w l c m → length m ≡ length l
wrote-length {w} {c} {xs} {l} {m} p =
    ap length p.list ∙ window-length w.from w.count (map (in_clause w.clause) xs) l

-- ---- clause after clause
-- items that have the number of their clause
pub numbered : (n : ℕ) (xs : List Item) → ((x : Item) → Memᴰ x xs → x.clause ≡ n) → map (in_clause n) xs ≡ xs
numbered n [] f = refl
numbered n (x ∷ xs) f =
    let e : in_clause n x ≡ x = ap (λ (k : ℕ). in_clause k x) (sym (f x (Memᴰ.head refl))) in
    let r : map (in_clause n) xs ≡ xs = numbered n xs (λ y m. f y (Memᴰ.tail m)) in
    rw (e, r)

pub told_none : {from : ℕ} {l : List ℕ} → ToldItems [] from l 0 l
unfolding window
told_none = record { count = refl; list = refl }

-- those of one clause more
pub told-join : {xs ys : List Item} {from n k : ℕ} {e : Tally} {l m o : List ℕ} → ToldItems xs from l n m
    → WroteItems ys (record { from = from; count = n; clause = k }) m e o → map (in_clause k) ys ≡ ys
    → ToldItems (xs ++ ys) from l e.count o
told-join {xs} {ys} {from} {n} {k} {e} {l} {m} {o} p q f = record {
  count = omega (arith, length-append xs ys, p.count, q.count);
  list = q.list ∙ rw (f, window-join, p.list, p.count, zero-add);
}

-- the same items by another name
pub told-as : {xs ys : List Item} {from n : ℕ} {l m : List ℕ} → xs ≡ ys → ToldItems xs from l n m
    → ToldItems ys from l n m
told-as {xs} {ys} {from} {n} {l} {m} e p = subst (λ (zs : List Item). ToldItems zs from l n m) e p

pub told-length : {xs : List Item} {from n : ℕ} {l m : List ℕ} → ToldItems xs from l n m → length m ≡ length l
told-length {xs} {from} {n} {l} {m} p = ap length p.list ∙ window-length from 0 xs l

-- ---- what `put` does, from the tests that the code makes
module _ (from n : ℕ) (x : Item) (l : List ℕ) where
  pub put-before : n < from → put from n x l ≡ l
  unfolding put
  put-before h = rw (lt-leb from n h)

  pub put_full : from ≤ n → length l / 7 ≤ n - from → put from n x l ≡ l
  unfolding put
  put_full h k = rw (le-leb from n h, le-ltb (n - from) (length l / 7) k)

  pub put-fits : from ≤ n → n - from < length l / 7 → put from n x l ≡ stored x (7 * (n - from)) l
  unfolding put
  put-fits h k = rw (le-leb from n h, lt-ltb (n - from) (length l / 7) k)

  pub wrote-here : {m : List ℕ} → m ≡ put from n x l
      → WroteItems (x ∷ []) (record { from = from; count = n; clause = x.clause }) l
      (record { from = from; count = n + 1; clause = x.clause }) m
  unfolding window
  wrote-here e = record { same = refl; clause = refl; count = refl; list = e }

-- seven stores in turn write an item
pub stores : (x : Item) (at : ℕ) (l : List ℕ) → at + 7 ≤ length l
    → set (set (set (set (set (set (set l at x.code) (at + 1) x.start) (at + 2) x.end) (at + 3) x.owner)
    (at + 4) x.stage) (at + 5) x.ordinal) (at + 6) x.clause ≡ stored x at l
stores x at l h =
    let a : at + 1 ≡ suc at = omega arith in
    let b : at + 2 ≡ suc (suc at) = omega arith in
    let c : at + 3 ≡ suc (suc (suc at)) = omega arith in
    let d : at + 4 ≡ suc (suc (suc (suc at))) = omega arith in
    let e : at + 5 ≡ suc (suc (suc (suc (suc at)))) = omega arith in
    let f : at + 6 ≡ suc (suc (suc (suc (suc (suc at))))) = omega arith in
    rw (a, b, c, d, e, f) (sets-eq (numbers x) l at h ∙ append_assoc (take at l) (numbers x) (drop (at + 7) l))

pub wrote-stored : (from n : ℕ) (x : Item) (l : List ℕ) → from ≤ n → n - from < length l / 7
    → WroteItems (x ∷ []) (record { from = from; count = n; clause = x.clause }) l
    (record { from = from; count = n + 1; clause = x.clause })
    (set (set (set (set (set (set (set l (7 * (n - from)) x.code) (7 * (n - from) + 1) x.start)
    (7 * (n - from) + 2) x.end) (7 * (n - from) + 3) x.owner) (7 * (n - from) + 4) x.stage)
    (7 * (n - from) + 5) x.ordinal) (7 * (n - from) + 6) x.clause)
wrote-stored from n x l h k = wrote-here from n x l (stores x (7 * (n - from)) l (omega arith) ∙ sym
    (put-fits from n x l h k))
