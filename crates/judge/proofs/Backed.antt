-- What the tuples of an element's names say of its map's keys, from what the code reads.
use mathlib.Core.Bool.{Bool, true, false}
use mathlib.Core.Path.{◌≡◌, refl, sym, ap, ◌∙◌}
use mathlib.Core.Logic.{⊎_elim}
use mathlib.Core.List.Memᴰ
use mathlib.Core.List.{List, [], ◌∷◌, ◌++◌, Memᴰ}
use Prim.Native.Nat.{ℕ}
use Rattle.lists.specs.Lists.{pick, either, each, any_of, all_of}
use Rattle.text.specs.Text.{is_text}
use Rattle.provider.specs.Inner.{backing_of}
use Rattle.provider.specs.declared.Backing.{Backing}
use Rattle.provider.specs.declared.Backing.TheVariants.{NoTuple, Unbacked, Backed}
use Rattle.lists.proofs.Joins.{any_append, each_append, each-one}
use Rattle.text.proofs.Among.{text-mem}
use Rattle.judge.specs.Merged.{joined_with}

abbrev told : Bool → Backing
told b = pick b Backed Unbacked

told_none : (a : Bool) → told (either a false) ≡ joined_with (told a) NoTuple
told_none true = refl
told_none false = refl

told-join : (a b : Bool) → told (either a b) ≡ joined_with (told a) (told b)
told-join true b = refl
told-join false true = refl
told-join false false = refl

backing-join : (us vs : List (List (List ℕ))) (ks : List (List ℕ)) → backing_of (us ++ vs) ks ≡ joined_with
    (backing_of us ks) (backing_of vs ks)
unfolding backing_of any_of
backing-join [] vs ks = refl
backing-join (u ∷ us) [] ks = ap told (any_append (λ x. all_of (is_text ks) x) (u ∷ us) []) ∙ told_none
    (any_of (λ x. all_of (is_text ks) x) (u ∷ us))
backing-join (u ∷ us) (v ∷ vs) ks =
    ap told (any_append (λ x. all_of (is_text ks) x) (u ∷ us) (v ∷ vs)) ∙ told-join
    (any_of (λ x. all_of (is_text ks) x) (u ∷ us)) (any_of (λ x. all_of (is_text ks) x) (v ∷ vs))

join-assoc : (a b c : Backing) → joined_with (joined_with a b) c ≡ joined_with a (joined_with b c)
join-assoc NoTuple b c = refl
join-assoc Backed b c = refl
join-assoc Unbacked NoTuple c = refl
join-assoc Unbacked Backed c = refl
join-assoc Unbacked Unbacked NoTuple = refl
join-assoc Unbacked Unbacked Unbacked = refl
join-assoc Unbacked Unbacked Backed = refl

join-none : (a : Backing) → joined_with a NoTuple ≡ a
join-none NoTuple = refl
join-none Backed = refl
join-none Unbacked = refl

-- a tuple that was there before changes nothing
join-again : (a b : Backing) → joined_with (joined_with a b) a ≡ joined_with a b
join-again NoTuple NoTuple = refl
join-again NoTuple Unbacked = refl
join-again NoTuple Backed = refl
join-again Unbacked NoTuple = refl
join-again Unbacked Unbacked = refl
join-again Unbacked Backed = refl
join-again Backed b = refl

module _ (T : List ℕ → List (List (List ℕ))) (ks : List (List ℕ)) where
  met-again : (xs : List (List ℕ)) (x : List ℕ) → Memᴰ x xs
      → joined_with (backing_of (each T xs) ks) (backing_of (T x) ks) ≡ backing_of (each T xs) ks
  unfolding each
  met-again [] x m = absurd (Memᴰ.not-nil m)
  met-again (y ∷ xs) x m =
      ap (λ (b : Backing). joined_with b (backing_of (T x) ks)) (backing-join (T y) (each T xs) ks)
      ∙ ⊎_elim
      (λ (e : x ≡ y). ap (λ (n : List ℕ). joined_with (joined_with (backing_of (T y) ks) (backing_of (each T xs) ks)) (backing_of (T n) ks)) e
      ∙ join-again (backing_of (T y) ks) (backing_of (each T xs) ks))
      (λ o. join-assoc (backing_of (T y) ks) (backing_of (each T xs) ks) (backing_of (T x) ks)
      ∙ ap (joined_with (backing_of (T y) ks)) (met-again xs x o))
      (Memᴰ.cases_cons m)
      ∙ sym (backing-join (T y) (each T xs) ks)

  -- one name more, where b is what its tuples say unless it was met before
  pub names_more : (xs : List (List ℕ)) (x : List ℕ) (met : Bool) (total b total' : Backing) → total ≡ backing_of (each T xs) ks
      → met ≡ is_text xs x → b ≡ pick met NoTuple (backing_of (T x) ks) → total' ≡ joined_with total b
      → total' ≡ backing_of (each T (xs ++ (x ∷ []))) ks
  names_more xs x met total b total' et em eb e =
      e ∙ ap (λ (a : Backing). joined_with a b) et ∙ ap (joined_with (backing_of (each T xs) ks)) eb ∙ go met em
      ∙ sym (ap (λ (us : List (List (List ℕ))). backing_of us ks) (each_append T xs (x ∷ []) ∙ ap (λ (us : List (List (List ℕ))). each T xs ++ us) (each-one T x))
      ∙ backing-join (each T xs) (T x) ks)
    where
      go : (q : Bool) → q ≡ is_text xs x → joined_with (backing_of (each T xs) ks) (pick q NoTuple (backing_of (T x) ks))
          ≡ joined_with (backing_of (each T xs) ks) (backing_of (T x) ks)
      go true h = join-none (backing_of (each T xs) ks) ∙ sym (met-again xs x (text-mem xs x (sym h)))
      go false h = refl
