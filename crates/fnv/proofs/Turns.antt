-- One turn of each loop over bytes.
use Rattle.std.proofs.Common.{◌≡◌, ℕ, ◌+◌, ◌*◌, ◌%◌, ◌^◌, ◌<◌, ◌≤◌, List, [], ◌∷◌, ◌++◌, length, get_or, take, drop, set, sym, refl, ap, ◌∙◌, add-one, arith, take_all, take-suc-set}
use lib.Bits.{bit_xor}
use Rattle.lists.proofs.Joins.{table-end}
use Rattle.lists.specs.Lists.{table}
use Rattle.lists.proofs.Laws.{rest_more, rest-none}
use Rattle.fnv.specs.Fnv.{prime, fnv_from, rotated, spread}

module _ (bs : List ℕ) (i h x : ℕ) (inv : fnv_from h (drop i bs) ≡ x) where
  pub feed-turn : (u : ℕ) → u ≡ bit_xor (get_or bs i 0) h * prime % 2 ^ 64 → i < length bs → fnv_from u (drop (i + 1) bs)
      ≡ x
  unfolding fnv_from
  feed-turn u e l = rw e (rw (rest_more bs i l) at inv)

  pub feed-end : length bs ≤ i → h ≡ x
  unfolding fnv_from
  feed-end l = rw (rest-none bs i l) at inv

-- the first i of n bytes are the table's
module _ (g : ℕ → ℕ) (l : List ℕ) (i n : ℕ) (inv : take i l ≡ table g 0 i) (size : length l ≡ n) where
  pub fill-turn : (x : ℕ) → i < n → x ≡ g i → take (i + 1) (set l i x) ≡ table g 0 (i + 1)
  fill-turn x h e =
      ap (λ (k : ℕ). take k (set l i x)) (add-one i)
      ∙ take-suc-set l i x (omega arith)
      ∙ ap (λ (r : List ℕ). r ++ (x ∷ [])) inv
      ∙ ap (λ (y : ℕ). table g 0 i ++ (y ∷ [])) e
      ∙ sym (table-end g i)

  pub fill_end : n ≤ i → i ≤ n → l ≡ table g 0 n
  fill_end h k =
      let e : i ≡ n = omega arith in
      sym (take_all i l (omega arith)) ∙ inv ∙ ap (table g 0) e

pub table_none : (g : ℕ → ℕ) → [] ≡ table g 0 0
unfolding table
table_none g = refl

pub spread-is : (h : ℕ) → spread h ≡ table (λ k. rotated h (7 * k % 64) % 256) 0 32
unfolding spread
spread-is h = refl
