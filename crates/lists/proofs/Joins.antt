-- Lists one behind another, and what stands in them.
use mathlib.Core.Path.{◌≡◌, refl, sym, ap, ◌∙◌}
use mathlib.Core.Bool.{Bool, true, false}
use mathlib.Core.Logic.{⊎_elim}
use mathlib.Core.List.Memᴰ
use mathlib.Core.List.{List, [], ◌∷◌, ◌++◌, map, append_assoc, append-nil, Memᴰ, Permᴰ}
use Prim.Native.Nat.{ℕ, zero, suc, ◌+◌, ◌≤◌, ◌<◌}
use native.Mathlib.Nat.{zero-add, suc-add}
use native.Mathlib.Omega.{arith}
use native.Mathlib.Numerals.{add-one}
use lib.ListN.{length}
use Rattle.lists.specs.Lists.{pick, both, either, table, nth, each, first, any_of, all_of, those}
use Rattle.lists.proofs.Tests.{both_true, true-both}
use Rattle.std.specs.Prelude.{Option, Some, None}

-- one of two lists passes
pub any_append : {A : Type 0} (p : A → Bool) (xs ys : List A) → any_of p (xs ++ ys) ≡ either (any_of p xs) (any_of p ys)
unfolding any_of
any_append p [] ys = refl
any_append p (x ∷ xs) ys = rw (any_append p xs ys) (go (p x))
  where
    go : (b : Bool) → either b (either (any_of p xs) (any_of p ys)) ≡ either (either b (any_of p xs)) (any_of p ys)
    go true = refl
    go false = refl

-- what g says of lists one behind another
pub each_append : {A B : Type 0} (g : A → List B) (xs ys : List A) → each g (xs ++ ys) ≡ each g xs ++ each g ys
unfolding each
each_append g [] ys = refl
each_append {A} {B} g (x ∷ xs) ys = ap (λ (r : List B). g x ++ r) (each_append g xs ys) ∙ sym (append_assoc (g x) (each g xs) (each g ys))

pub each-one : {A B : Type 0} (g : A → List B) (x : A) → each g (x ∷ []) ≡ g x
unfolding each
each-one g x = append-nil (g x)

pub each-mem : {A B : Type 0} {y : B} (g : A → List B) (xs : List A) (x : A) → Memᴰ x xs → Memᴰ y (g x) → Memᴰ y (each g xs)
unfolding each
each-mem g [] x m n = absurd (Memᴰ.not-nil m)
each-mem {A} {B} {y} g (z ∷ xs) x m n = ⊎_elim
    (λ e. Memᴰ.append_left (each g xs) (rw e at n))
    (λ o. Memᴰ.append_right (g z) (each-mem g xs x o n))
    (Memᴰ.cases_cons m)

-- what stands in a list stands in a rearrangement of it
pub perm-mem : {A : Type 0} {x : A} {xs ys : List A} → Permᴰ xs ys → Memᴰ x xs → Memᴰ x ys
perm-mem Permᴰ.nil m = m
perm-mem (Permᴰ.cons e p) m = ⊎_elim
    (λ h. Memᴰ.head (h ∙ e))
    (λ n. Memᴰ.tail (perm-mem p n))
    (Memᴰ.cases_cons m)
perm-mem (Permᴰ.swap e f) m = ⊎_elim
    (λ h. Memᴰ.tail (Memᴰ.head (h ∙ e)))
    (λ n. ⊎_elim
    (λ h. Memᴰ.head (h ∙ f))
    (λ o. Memᴰ.tail (Memᴰ.tail o))
    (Memᴰ.cases_cons n))
    (Memᴰ.cases_cons m)
perm-mem (Permᴰ.trans p q) m = perm-mem q (perm-mem p m)

snoc : {A : Type 0} (g : ℕ → A) (a n : ℕ) → table g a (suc n) ≡ table g a n ++ (g (a + n) ∷ [])
unfolding table
snoc g a zero = let e : a + 0 ≡ a = omega arith in rw e
snoc {A} g a (suc n) =
    let e : suc a + n ≡ a + suc n = omega arith in
    ap (λ (r : List A). g a ∷ r) (snoc g (suc a) n ∙ ap (λ (k : ℕ). table g (suc a) n ++ (g k ∷ [])) e)

pub table-snoc : {A : Type 0} (g : ℕ → A) (a n : ℕ) → table g a (n + 1) ≡ table g a n ++ (g (a + n) ∷ [])
table-snoc g a n = ap (table g a) (add-one n) ∙ snoc g a n

pub table-end : {A : Type 0} (g : ℕ → A) (n : ℕ) → table g 0 (n + 1) ≡ table g 0 n ++ (g n ∷ [])
table-end g n = let e : 0 + n ≡ n = omega arith in table-snoc g 0 n ∙ ap (λ (k : ℕ). table g 0 n ++ (g k ∷ [])) e

-- the first that passes, of two lists
abbrev pub or_first : {A : Type 0} → Option A → Option A → Option A
or_first None r = r
or_first (Some x) r = Some x

pub first-append : {A : Type 0} (p : A → Bool) (xs ys : List A) → first p (xs ++ ys) ≡ or_first (first p xs) (first p ys)
unfolding first
first-append p [] ys = refl
first-append {A} p (x ∷ xs) ys = go (p x) (first-append p xs ys)
  where
    go : (b : Bool) → first p (xs ++ ys) ≡ or_first (first p xs) (first p ys)
        → pick b (Some x) (first p (xs ++ ys)) ≡ or_first (pick b (Some x) (first p xs)) (first p ys)
    go true e = refl
    go false e = e

-- what was found stands in the list
pub first-mem : {A : Type 0} (p : A → Bool) (xs : List A) (x : A) → first p xs ≡ Some x → Memᴰ x xs
unfolding first
first-mem p [] x e = absurd (let z : ◌≡◌ {A = ℕ} 0 1 = cc in omega arith)
first-mem {A} p (y ∷ xs) x e = go (p y) e (first-mem p xs x)
  where
    go : (b : Bool) → pick b (Some y) (first p xs) ≡ Some x → (first p xs ≡ Some x → Memᴰ x xs) → Memᴰ x (y ∷ xs)
    go true h r = Memᴰ.head (let z : x ≡ y = cc in z)
    go false h r = Memᴰ.tail (r h)

-- what holds of all that g gives holds of what it gives of each
pub each_all : {A B : Type 0} (g : A → List B) (xs : List A) (Q : B → Type 0) → ((x : A) (y : B) → Memᴰ y (g x) → Q y) → (y : B)
    → Memᴰ y (each g xs) → Q y
unfolding each
each_all g [] Q h y m = absurd (Memᴰ.not-nil m)
each_all g (x ∷ xs) Q h y m = ⊎_elim (λ o. h x y o) (λ o. each_all g xs Q h y o) (Memᴰ.append_cases (g x) m)

-- ---- tests of a list's parts, and of what is made of its entries
pub all_append : {A : Type 0} (q : A → Bool) (xs ys : List A) → all_of q xs ≡ true → all_of q ys ≡ true → all_of q (xs ++ ys) ≡ true
unfolding all_of
all_append q [] ys h g = g
all_append q (x ∷ xs) ys h g =
    let b = both_true (q x) (all_of q xs) h in
    true-both b.0 (all_append q xs ys b.1 g)

pub all_map : {A B : Type 0} (q : B → Bool) (f : A → B) (xs : List A) → all_of q (map f xs) ≡ all_of (λ x. q (f x)) xs
unfolding all_of
all_map q f [] = refl
all_map q f (x ∷ xs) = ap (both (q (f x))) (all_map q f xs)

pub all-those : {A : Type 0} (p q : A → Bool) (xs : List A) → all_of q xs ≡ true → all_of q (those p xs) ≡ true
unfolding all_of those
all-those p q [] h = refl
all-those {A} p q (x ∷ xs) h = go (p x) (both_true (q x) (all_of q xs) h) (all-those p q xs)
  where
    go : (b : Bool) → (q x ≡ true) × (all_of q xs ≡ true) → (all_of q xs ≡ true → all_of q (those p xs) ≡ true)
        → all_of q (pick b (x ∷ those p xs) (those p xs)) ≡ true
    go true t r = true-both t.0 (r t.1)
    go false t r = r t.1

pub those-append : {A : Type 0} (q : A → Bool) (xs ys : List A) → those q (xs ++ ys) ≡ those q xs ++ those q ys
unfolding those
those-append q [] ys = refl
those-append {A} q (x ∷ xs) ys = go (q x) (those-append q xs ys)
  where
    go : (b : Bool) → those q (xs ++ ys) ≡ those q xs ++ those q ys
        → pick b (x ∷ those q (xs ++ ys)) (those q (xs ++ ys)) ≡ pick b (x ∷ those q xs) (those q xs) ++ those q ys
    go true e = ap (λ (r : List A). x ∷ r) e
    go false e = e

-- ---- what is said of each of what is made
pub each_map : {A B C : Type 0} (f : B → List C) (g : A → B) (xs : List A) → each f (map g xs) ≡ each (λ x. f (g x)) xs
unfolding each
each_map f g [] = refl
each_map {A} {B} {C} f g (x ∷ xs) = ap (λ (r : List C). f (g x) ++ r) (each_map f g xs)

pub each-each : {A B C : Type 0} (f : B → List C) (g : A → List B) (xs : List A) → each f (each g xs) ≡ each (λ x. each f (g x)) xs
unfolding each
each-each f g [] = refl
each-each {A} {B} {C} f g (x ∷ xs) = each_append f (g x) (each g xs) ∙ ap (λ (r : List C). each f (g x) ++ r) (each-each f g xs)

pub map-table : {A B : Type 0} (g : A → B) (f : ℕ → A) (i n : ℕ) → map g (table f i n) ≡ table (λ k. g (f k)) i n
unfolding table
map-table g f i zero = refl
map-table {A} {B} g f i (suc n) = ap (λ (r : List B). g (f i) ∷ r) (map-table g f (suc i) n)

pub table-map : {A : Type 0} (f : ℕ → A) (i n : ℕ) → map f (table (λ k. k) i n) ≡ table f i n
table-map f i n = map-table f (λ k. k) i n

pub table-join : {A : Type 0} (f : ℕ → A) (a m n : ℕ) → table f a (m + n) ≡ table f a m ++ table f (a + m) n
unfolding table
table-join f a zero n =
    let e : a + 0 ≡ a = omega arith in
    let z : 0 + n ≡ n = omega arith in
    rw (e, z)
table-join {A} f a (suc m) n =
    let e : a + suc m ≡ suc a + m = omega arith in
    let z : suc m + n ≡ suc (m + n) = omega arith in
    rw (e, z) (ap (λ (r : List A). f a ∷ r) (table-join f (suc a) m n))

-- ---- tables of the same, from a on and from p on
pub table-moved : {A : Type 0} (f g : ℕ → A) (m a p : ℕ) → ((i j : ℕ) → p + i ≡ a + j → a ≤ i → i < a + m → g j ≡ f i)
    → table g p m ≡ table f a m
unfolding table
table-moved f g zero a p k = refl
table-moved f g (suc m) a p k =
    rw (k a p (omega arith) (omega arith) (omega arith))
    (ap (λ z. f a ∷ z)
    (table-moved f g m (suc a) (suc p) (λ i j e x y. k i j (omega arith) (omega arith) (omega arith))))

-- over one range
pub table_same : {A : Type 0} (f g : ℕ → A) (m : ℕ) → ((j : ℕ) → j < m → g j ≡ f j) → table g 0 m ≡ table f 0 m
table_same f g m k = table-moved f g m 0 0
    (λ i j e x y. let z : i ≡ j = omega arith in ap g (sym z) ∙ k i (omega arith))

-- ---- members of a list that is changed one by one
module _ {A B : Type 0} (f : A → B) where
  pub map-mem : {y : B} (l : List A) → Memᴰ y (map f l) → (x : A) × Memᴰ x l × (y ≡ f x)
  map-mem {y = y} [] m = elim m [ ]
  map-mem (x ∷ l) (Memᴰ.head e) = (x, Memᴰ.head refl, e)
  map-mem (x ∷ l) (Memᴰ.tail m) = let r = map-mem l m in (r.0, Memᴰ.tail r.1, r.2)

  pub mem-map : {x : A} {l : List A} → Memᴰ x l → Memᴰ (f x) (map f l)
  mem-map (Memᴰ.head e) = Memᴰ.head (ap f e)
  mem-map (Memᴰ.tail m) = Memᴰ.tail (mem-map m)

-- ---- number k of two lists, one behind the other
pub nth-first : {A : Type 0} (l m : List A) (k : ℕ) → k < length l → nth (l ++ m) k ≡ nth l k
unfolding nth
nth-first [] m k h = absurd (omega arith)
nth-first (x ∷ l) m zero h = refl
nth-first (x ∷ l) m (suc k) h = nth-first l m k (omega arith)

pub nth-second : {A : Type 0} (l m : List A) (k : ℕ) → nth (l ++ m) (length l + k) ≡ nth m k
unfolding nth
nth-second [] m k = rw (zero-add k)
nth-second (x ∷ l) m k = rw (suc-add (length l) k) (nth-second l m k)
