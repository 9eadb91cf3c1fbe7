-- The rows of the table of rules: a shape is the rule of a kind by its key, and of every kind that is no key.
use mathlib.Core.Path.{◌≡◌, refl, sym, subst, ap, ◌∙◌}
use mathlib.Core.List.{List, [], ◌∷◌, ◌++◌}
use mathlib.Core.Bool.{Bool, true, false}
use mathlib.Core.Logic.{◌⊎◌, inl, inr, ⊎_elim}
use Prim.Native.Nat.{ℕ, zero, suc, ◌+◌, ◌*◌, ◌/◌, ◌%◌, ◌≤◌, ◌<◌}
use native.Mathlib.Omega.{arith}
use native.Mathlib.Nat.{suc-add, zero-add}
use lib.Dec.{eqb}
use lib.ListN.{length}
use borrow.Author.Tests.{ne_eqb, eqb-true}
use Rattle.lists.specs.Lists.{both, either, table, first, any_of, through, is_one, is_empty}
use Rattle.lists.proofs.Tests.{never, both_true, either_true}
use Rattle.lists.proofs.Ranges.{one-append, every_from, every-at, through-in}
use Rattle.rules.specs.declared.Place.{Place}
use Rattle.rules.specs.declared.Place.TheVariants.{Expr}
use Rattle.rules.specs.declared.Shape.{Shape}
use Rattle.rules.specs.Rules.{rules, many, pairs, most_of, opens}
use Rattle.rules.specs.Shapes.{shape, Ruled}

-- a is one of the keys of an arm, and b of none of the arms before, the last of them first
abbrev pub Among : List ℕ → ℕ → Type 0
Among [] a = ⊥
Among (k ∷ []) a = a ≡ k
Among (k ∷ l ∷ ks) a = (a ≡ k) ⊎ Among (l ∷ ks) a

abbrev pub NoKey : List (List ℕ) → ℕ → Type 0
NoKey [] a = Unit {0}
NoKey (ks ∷ arms) a = NoKey arms a × (Among ks a → ⊥)

abbrev pub Each : (ℕ → Type 0) → List ℕ → Type 0
Each P [] = Unit {0}
Each P (k ∷ ks) = P k × Each P ks

-- what holds of each key holds of one of them
pub by_key : (P : ℕ → Type 0) (ks : List ℕ) (a : ℕ) → Among ks a → Each P ks → P a
by_key P [] a h e = absurd h
by_key P (k ∷ []) a h e = subst P (sym h) e.0
by_key P (k ∷ l ∷ ks) a (inl h) e = subst P (sym h) e.0
by_key P (k ∷ l ∷ ks) a (inr h) e = by_key P (l ∷ ks) a h e.1

not-among : (ks : List ℕ) (a : ℕ) → (Among ks a → ⊥) → is_one ks a ≡ false
unfolding any_of
not-among [] a h = refl
not-among (k ∷ []) a h = simp (ne_eqb a k h)
not-among (k ∷ l ∷ ks) a h = simp (ne_eqb a k (λ e. h (inl e)), not-among (l ∷ ks) a (λ e. h (inr e)))

no_key : (arms : List (List ℕ)) (a : ℕ) → NoKey arms a → any_of (λ ks. is_one ks a) arms ≡ false
unfolding any_of
no_key [] a h = refl
no_key (ks ∷ arms) a h = simp (not-among ks a h.1, no_key arms a h.0)

-- ---- rows that have no key
pub empty-is : (ps : List Place) → is_empty ps ≡ true → [] ≡ ps
empty-is [] e = refl
empty-is (p ∷ ps) e = never e

-- kind a has the greatest value m and opens nothing
bare : ℕ → ℕ → ℕ → Bool
bare m v a = both (eqb m (most_of a)) (is_empty (opens a v))

abbrev pub nothing : ℕ → Shape
nothing m = shape m 0 0 0 Expr 0 Expr 0

-- over a range of kinds, each is a key of the arms or bare
covered : List (List ℕ) → ℕ → ℕ → ℕ → Bool
covered arms m v a = either (any_of (λ ks. is_one ks a) arms) (bare m v a)

bare-ruled : (m v a : ℕ) → bare m v a ≡ true → Ruled a v (nothing m)
unfolding bare many pairs
bare-ruled m v a e =
    let p = both_true (eqb m (most_of a)) (is_empty (opens a v)) e in
    record { most = eqb-true m (most_of a) p.0; below = λ h. empty-is (opens a v) p.1 }

rest-ruled : (arms : List (List ℕ)) (m v low n a : ℕ) → every_from (covered arms m v) low n ≡ true → NoKey arms a → low
    ≤ a → a < low + n → Ruled a v (nothing m)
unfolding covered
rest-ruled arms m v low n a e k h g =
    let t : covered arms m v a ≡ true = every-at (covered arms m v) n low a e h g in
    bare-ruled m v a (rw (no_key arms a k) at t)

below-itself : {a b : ℕ} → a ≤ b → b < a → ⊥
below-itself l g = omega arith

-- the arms of a function with a single kind or several, the last first; arms of ranges are stated beside them
abbrev pub expression_arms : List (List ℕ)
expression_arms =
    (26 ∷ []) ∷ (25 ∷ []) ∷ (24 ∷ []) ∷ (23 ∷ []) ∷ (22 ∷ []) ∷ (20 ∷ []) ∷ (16 ∷ []) ∷ (14 ∷ []) ∷ (13 ∷ [])
    ∷ (12 ∷ [])
    ∷ (11 ∷ 17 ∷ 21 ∷ []) ∷ (10 ∷ []) ∷ []

abbrev pub clause_arms : List (List ℕ)
clause_arms =
    (90 ∷ []) ∷ (85 ∷ []) ∷ (82 ∷ 84 ∷ []) ∷ (80 ∷ []) ∷ (78 ∷ []) ∷ (77 ∷ []) ∷ (75 ∷ 79 ∷ []) ∷ (74 ∷ [])
    ∷ (73 ∷ 76 ∷ 81 ∷ 83 ∷ []) ∷ (61 ∷ []) ∷ (60 ∷ []) ∷ []

abbrev pub schema_arms : List (List ℕ)
schema_arms = (111 ∷ []) ∷ (110 ∷ []) ∷ (106 ∷ []) ∷ (103 ∷ []) ∷ (102 ∷ []) ∷ (101 ∷ []) ∷ (100 ∷ []) ∷ []

pub expression-rest : (v a : ℕ) → NoKey expression_arms a → a < 27 → (a < 16) ⊎ (20 ≤ a) → Ruled a v (nothing 0)
unfolding every_from covered bare most_of opens rules first any_of table
expression-rest v a k h (inl g) = rest-ruled expression_arms 0 v 0 16 a refl k (omega arith) g
expression-rest v a k h (inr g) = rest-ruled expression_arms 0 v 20 7 a refl k g h

pub item-rest : (v a : ℕ) → 27 ≤ a → a < 60 → (a < 27) ⊎ (((31 ≤ a) × (a < 50)) ⊎ (52 ≤ a)) → Ruled a v (nothing 0)
unfolding every_from covered bare most_of opens rules first any_of table
item-rest v a l h (inl g) = absurd (omega arith)
item-rest v a l h (inr (inl g)) = rest-ruled [] 0 v 31 19 a refl tt g.0 g.1
item-rest v a l h (inr (inr g)) = rest-ruled [] 0 v 52 8 a refl tt g h

pub clause-rest : (v a : ℕ) → NoKey clause_arms a → 60 ≤ a → a < 100 → (a < 60) ⊎ (((64 ≤ a) × (a < 70)) ⊎ (73 ≤ a))
    → Ruled a v (nothing 0)
unfolding every_from covered bare most_of opens rules first any_of table
clause-rest v a k l h (inl g) = absurd (below-itself l g)
clause-rest v a k l h (inr (inl g)) = rest-ruled clause_arms 0 v 64 6 a refl k g.0 g.1
clause-rest v a k l h (inr (inr g)) = rest-ruled clause_arms 0 v 73 27 a refl k g h

pub schema-rest : (v a : ℕ) → NoKey schema_arms a → 100 ≤ a → a < 256
    → (a < 100) ⊎ (((106 ≤ a) × (a < 110)) ⊎ (((114 ≤ a) × (a < 120)) ⊎ (129 ≤ a))) → Ruled a v (nothing 0)
unfolding every_from covered bare most_of opens rules first any_of table
schema-rest v a k l h (inl g) = absurd (below-itself l g)
schema-rest v a k l h (inr (inl g)) = rest-ruled schema_arms 0 v 106 4 a refl k g.0 g.1
schema-rest v a k l h (inr (inr (inl g))) = rest-ruled schema_arms 0 v 114 6 a refl k g.0 g.1
schema-rest v a k l h (inr (inr (inr g))) = rest-ruled [] 0 v 129 127 a refl tt g h

pub type-ruled : (v a : ℕ) → 120 ≤ a → a < 129 → Ruled a v (nothing 63)
unfolding every_from covered bare most_of opens rules first any_of table
type-ruled v a g h = rest-ruled [] 63 v 120 9 a refl tt g (omega arith)

-- ---- rows that have one
pub at_key : {k n v : ℕ} {x : Shape} → k ≡ n → Ruled n v x → Ruled k v x
at_key {k} {n} {v} {x} e h = subst (λ (j : ℕ). Ruled j v x) (sym e) h

pub at-keys : {k v : ℕ} {x : Shape} (ks : List ℕ) → Among ks k → Each (λ n. Ruled n v x) ks → Ruled k v x
at-keys {k} {v} {x} ks h e = by_key (λ n. Ruled n v x) ks k h e

pub ruled-as : {k v : ℕ} {r x : Shape} → r ≡ x → Ruled k v x → Ruled k v r
ruled-as {k} {v} {r} {x} e h = subst (λ (y : Shape). Ruled k v y) (sym e) h

-- how many places `many` stands for
pub many-length : (n : ℕ) (p : Place) (ps : List Place) → length (many n p ps) ≡ n + length ps
unfolding many
many-length zero p ps = sym (zero-add (length ps))
many-length (suc n) p ps = rw (many-length n p ps, suc-add)

-- so many of a place and so many more
pub many-add : (a b : ℕ) (p : Place) (ps : List Place) → many (a + b) p ps ≡ many a p (many b p ps)
unfolding many
many-add zero b p ps = rw zero-add
many-add (suc a) b p ps = rw (suc-add, many-add a b p ps)

flag_is : (v : ℕ) → v ≤ 1 → v % 2 ≡ v
flag_is v h = omega arith

-- an expression behind as many as a flag says
pub flagged : (v : ℕ) → v ≤ 1 → many (v % 2 + 1) Expr [] ≡ many v Expr (Expr ∷ [])
unfolding many
flagged v h = many-add (v % 2) 1 Expr [] ∙ ap (λ (n : ℕ). many n Expr (Expr ∷ [])) (flag_is v h)

-- the rows of Slice and of Case
pub slice-row : (v : ℕ) → many (1 + v % 2) Expr (many (v / 2) Expr []) ≡ Expr ∷ many (v % 2) Expr (many (v / 2) Expr [])
unfolding many
slice-row v = many-add 1 (v % 2) Expr (many (v / 2) Expr [])

pub case_row : (v : ℕ) → many (v % 2 + 2 * (v / 4)) Expr (many (v / 2 % 2) Expr [])
    ≡ many (v % 2) Expr (many (2 * (v / 4)) Expr (many (v / 2 % 2) Expr []))
case_row v = many-add (v % 2) (2 * (v / 4)) Expr (many (v / 2 % 2) Expr [])

-- ---- rows by the place that takes them
one-among : (ks : List ℕ) (a : ℕ) → is_one ks a ≡ true → Among ks a
unfolding any_of
one-among [] a h = never h
one-among (k ∷ []) a h = ⊎_elim (λ e. eqb-true a k e) never (either_true (eqb a k) false h)
one-among (k ∷ l ∷ ks) a h =
    ⊎_elim (λ e. inl (eqb-true a k e)) (λ e. inr (one-among (l ∷ ks) a e)) (either_true (eqb a k) (is_one (l ∷ ks) a) h)

-- what holds of each kind that a place takes holds of the one it took
pub taken-by : (P : ℕ → Type 0) (ks : List ℕ) (a : ℕ) → is_one ks a ≡ true → Each P ks → P a
taken-by P ks a h e = by_key P ks a (one-among ks a h) e

pub at-range : {k v : ℕ} {x : Shape} (a b : ℕ) → a ≤ k → k ≤ b → Each (λ n. Ruled n v x) (through a b) → Ruled k v x
at-range {k} {v} {x} a b g h e = taken-by (λ n. Ruled n v x) (through a b) k (through-in a b k g h) e

-- and of one that is none of the keys of the arms before, where each of a range is one of those or one of these
pub at_rest : {k v : ℕ} {x : Shape} (arms : List (List ℕ)) (ks : List ℕ) (low n : ℕ)
    → every_from (λ a. either (any_of (λ js. is_one js a) arms) (is_one ks a)) low n ≡ true → NoKey arms k → low ≤ k → k <
    low + n
    → Each (λ n. Ruled n v x) ks → Ruled k v x
at_rest {k} {v} {x} arms ks low n e h g l each =
    let t : either (any_of (λ js. is_one js k) arms) (is_one ks k) ≡ true = every-at
    (λ a. either (any_of (λ js. is_one js a) arms) (is_one ks a)) n low k e g l in
    taken-by (λ n. Ruled n v x) ks k (rw (no_key arms k h) at t) each

-- ---- the greatest value alone: the rows of `most_of`, the last first
abbrev pub most_rows : List (List ℕ)
most_rows =
    (24 ∷ 103 ∷ 110 ∷ []) ∷ (23 ∷ 25 ∷ []) ∷ (12 ∷ []) ∷ (101 ∷ 105 ∷ []) ∷ (100 ∷ 102 ∷ 104 ∷ 111 ∷ []) ∷ (75 ∷ 78 ∷ 85 ∷ 90 ∷ []) ∷ (74 ∷ 77 ∷ 79 ∷ 82 ∷ 84 ∷ []) ∷ (51 ∷ 61 ∷ 63 ∷ []) ∷ (14 ∷ 50 ∷ 60 ∷ 62 ∷ []) ∷ (13 ∷ 16 ∷ 20 ∷ 26 ∷ []) ∷ []

-- kind a is one of theirs, or its greatest value is 0
bounded-by : ℕ → Bool
bounded-by a = either (any_of (λ ks. is_one ks a) most_rows) (eqb 0 (most_of a))

pub most-rest : (a : ℕ) → NoKey most_rows a → a < 120 → 0 ≡ most_of a
unfolding every_from bounded-by most_of rules first any_of table
most-rest a k h =
    let t : bounded-by a ≡ true = every-at bounded-by 120 0 a refl (omega arith) h in
    eqb-true 0 (most_of a) (rw (no_key most_rows a k) at t)

pub most-past : (a : ℕ) → 128 < a → a < 256 → 0 ≡ most_of a
unfolding every_from covered bare most_of opens rules first any_of table
most-past a g h = (rest-ruled [] 0 0 129 127 a refl tt g h).most

-- ---- the kinds that a place takes: one, or those of two rows
pub one_kind : (k a : ℕ) → eqb k a ≡ is_one (a ∷ []) k
unfolding any_of
one_kind k a = go (eqb k a)
  where
    go : (b : Bool) → b ≡ either b false
    go true = refl
    go false = refl

module _ (as' bs : List ℕ) (k : ℕ) {t : Bool} where
  pub in_first : t ≡ is_one as' k → t ≡ true → t ≡ is_one (as' ++ bs) k
  in_first e h = let g : is_one as' k ≡ true = sym e ∙ h in h ∙ sym (rw (one-append, g))

  pub in_second : {u : Bool} → t ≡ is_one as' k → t ≡ false → u ≡ is_one bs k → u ≡ is_one (as' ++ bs) k
  in_second e h f = let g : is_one as' k ≡ false = sym e ∙ h in rw (one-append, g) f
