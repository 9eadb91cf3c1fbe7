-- The loop that fills a list from another of its length.
use mathlib.Core.Path.{◌≡◌, sym, ap, ◌∙◌}
use mathlib.Core.List.{List, [], ◌∷◌, ◌++◌}
use Prim.Native.Nat.{ℕ, ◌+◌, ◌≤◌, ◌<◌}
use native.Mathlib.Numerals.{add-one}
use lib.ListN.{length, get_or, take, set}
use lib.Seq.{take-suc-set, take-suc, take_all}

module _ {A : Type 0} (from to : List A) (k : ℕ) (e : take k to ≡ take k from) where
  pub copy-turn : {x : A} → x ≡ get_or from k x → k < length to → k < length from
      → take (k + 1) (set to k x) ≡ take (k + 1) from
  copy-turn {x} i h g =
      let p : take (k + 1) from ≡ take k from ++ (get_or from k x ∷ []) = rw (add-one k) (take-suc from k x g) in
      let q : take (k + 1) (set to k x) ≡ take k to ++ (x ∷ []) = rw (add-one k) (take-suc-set to k x h) in
      q ∙ ap (λ (l : List A). l ++ (x ∷ [])) e ∙ ap (λ (y : A). take k from ++ (y ∷ [])) i ∙ sym p

  pub copy-end : length to ≤ k → length from ≤ k → to ≡ from
  copy-end h g = sym (take_all k to h) ∙ e ∙ take_all k from g
