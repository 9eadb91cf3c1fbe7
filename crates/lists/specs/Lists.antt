-- Tests and lists: the small definitions that the others use.
use Rattle.std.specs.Prelude.{ℕ, zero, suc, ◌-◌, Bool, true, false, List, [], ◌∷◌, ◌++◌, eqb}
use Rattle.std.specs.Prelude.{Option, Some, None}

-- a where the test passes, else b
abbrev pub pick : {A : Type 0} → Bool → A → A → A
pick true a b = a
pick false a b = b

-- both tests pass; one of them passes
abbrev pub both : Bool → Bool → Bool
both true b = b
both false b = false

abbrev pub either : Bool → Bool → Bool
either true b = true
either false b = b

-- f i, f (i + 1) and so on, n in all
unfoldable pub table : {A : Type 0} → (ℕ → A) → ℕ → ℕ → List A
table f i zero = []
table f i (suc n) = f i ∷ table f (suc i) n

-- the first that passes
unfoldable pub first : {A : Type 0} → (A → Bool) → List A → Option A
first p [] = None
first {A} p (x ∷ xs) = let r : Option A = first p xs in pick (p x) (Some x) r

-- number k of a list, from 0, if there is one
unfoldable pub nth : {A : Type 0} → List A → ℕ → Option A
nth [] k = None
nth (x ∷ xs) zero = Some x
nth (x ∷ xs) (suc k) = nth xs k

-- one passes
unfoldable pub any_of : {A : Type 0} → (A → Bool) → List A → Bool
any_of p [] = false
any_of p (x ∷ xs) = let r : Bool = any_of p xs in either (p x) r

-- the numbers from a through b, which takes b along; k is one of a list
abbrev pub through : ℕ → ℕ → List ℕ
through a b = table (λ k. k) a (suc b - a)

abbrev pub is_one : List ℕ → ℕ → Bool
is_one ks k = any_of (eqb k) ks

-- what f says of each, in turn; all pass
unfoldable pub each : {A B : Type 0} → (A → List B) → List A → List B
each f [] = []
each f (x ∷ xs) = f x ++ each f xs

unfoldable pub all_of : {A : Type 0} → (A → Bool) → List A → Bool
all_of p [] = true
all_of p (x ∷ xs) = let r : Bool = all_of p xs in both (p x) r

-- those that pass, as they stand
unfoldable pub those : {A : Type 0} → (A → Bool) → List A → List A
those p [] = []
those {A} p (x ∷ xs) = let r : List A = those p xs in pick (p x) (x ∷ r) r

-- none is there
abbrev pub is_empty : {A : Type 0} → List A → Bool
is_empty [] = true
is_empty (x ∷ xs) = false

-- what f says of the numbers from a up to b, without b, in turn
abbrev pub over : {A : Type 0} → (ℕ → List A) → ℕ → ℕ → List A
over f a b = each f (table (λ k. k) a (b - a))
