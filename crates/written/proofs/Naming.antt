-- Names put one after the other, from some name and place of the text on.
use mathlib.Core.Path.{◌≡◌, refl, sym, ap, ◌∙◌}
use mathlib.Core.List.{List, [], ◌∷◌, ◌++◌, append_assoc, append-nil}
use Prim.Native.Nat.{ℕ, ◌+◌, ◌≤◌, ◌<◌}
use native.Mathlib.Omega.{arith}
use lib.ListN.{length, length-append}
use Rattle.lists.specs.Lists.{each}
use Rattle.frame.specs.declared.Sheet.{Sheet}
use Rattle.written.specs.Written.{text_in, ends_from}
use Rattle.written.specs.Inner.{EndsPut, TextPut, NamesPut}
use Rattle.written.proofs.Begun.{names-none, names-join, names-one}
use Rattle.written.proofs.Bytes.{ends-length}

-- some of the names are put, from name `first` and place `from` of the text on; the next is name k, its text begins at
-- `end`
pub record Naming (f : Sheet) (first from : ℕ) (names left : List (List ℕ)) (end k : ℕ) (l out : List ℕ)
    : Type 0 where
  pub ends : List ℕ
  pub text : List ℕ
  pub put : NamesPut f first ends from text l out
  pub ends_left : ends ++ ends_from end left ≡ ends_from from names
  pub text_left : text ++ text_in left ≡ text_in names
  pub place : end ≡ from + length text
  pub number : k ≡ first + length ends
  pub size : length out ≡ length l

pub naming-start : (f : Sheet) (first from : ℕ) (names : List (List ℕ)) (l : List ℕ)
    → Naming f first from names names from first l l
naming-start f first from names l = record {
  ends = [];
  text = [];
  put = names-none;
  ends_left = refl;
  text_left = refl;
  place = omega arith;
  number = omega arith;
  size = refl;
}

-- the same with other words for the names that are left
pub naming-as : {f : Sheet} {first from end k : ℕ} {names left others : List (List ℕ)} {l out : List ℕ}
    → left ≡ others → Naming f first from names left end k l out → Naming f first from names others end k l out
naming-as e p = rw (← e) p

module _ {f : Sheet} {first from end k : ℕ} {names : List (List ℕ)} (n : List ℕ) (left : List (List ℕ))
    {l out : List ℕ} (p : Naming f first from names (n ∷ left) end k l out) where
  ends_more : p.ends ++ ((end + length n) ∷ ends_from (end + length n) left) ≡ ends_from from names
  unfolding ends_from
  ends_more = p.ends_left

  text-more : p.text ++ (n ++ text_in left) ≡ text_in names
  unfolding each
  text-more = p.text_left

  -- the next name is one of them, and its text ends among theirs
  pub naming-room : (k < first + length names) × (end + length n ≤ from + length (text_in names))
  naming-room =
      let b : ℕ = end + length n in (
        omega (
          arith,
          p.number,
          ends-length from names,
          ap length ends_more,
          length-append p.ends (b ∷ ends_from b left),
        ),
        omega (
          arith,
          p.place,
          ap length text-more,
          length-append p.text (n ++ text_in left),
          length-append n (text_in left),
        ),
      )

  pub naming-turn : (end' : ℕ) (m out' : List ℕ) → end' ≡ end + length n → TextPut f end n out m
      → EndsPut f k (end' ∷ []) m out' → length out' ≡ length out → Naming f first from names left end' (k + 1) l out'
  naming-turn end' m out' g q r z =
      let b : ℕ = end + length n in
      record {
        ends = p.ends ++ (end' ∷ []);
        text = p.text ++ n;
        put = names-join p.put p.number p.place (names-one q r);
        ends_left = rw (g, append_assoc p.ends (b ∷ []) (ends_from b left)) ends_more;
        text_left = rw (append_assoc p.text n (text_in left)) text-more;
        place = omega (arith, p.place, length-append p.text n);
        number = omega (arith, p.number, length-append p.ends (end' ∷ []));
        size = z ∙ p.size;
      }

-- all of them are put
pub naming-last : {f : Sheet} {first from end k : ℕ} {names : List (List ℕ)} {l out : List ℕ}
    → Naming f first from names [] end k l out → NamesPut f first (ends_from from names) from (text_in names) l out
unfolding ends_from each
naming-last p =
    let a = sym (append-nil p.ends) ∙ p.ends_left in
    let b = sym (append-nil p.text) ∙ p.text_left in
    rw (← a, ← b) p.put
