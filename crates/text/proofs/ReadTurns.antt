-- What is known of two texts while they are looked at, each byte being read by f. Reading keeps lengths, so those of the
-- texts decide.
use mathlib.Core.Path.{◌≡◌, ◌∙◌, sym}
use mathlib.Core.List.{List, map}
use mathlib.Core.Bool.{false}
use Prim.Native.Nat.{ℕ, ◌+◌, ◌≤◌, ◌<◌}
use lib.ListN.{length, get_or, length-map}
use Rattle.std.proofs.lemmas.List.{get_or-map}
use Rattle.std.specs.declared.cmp.Ordering.{Ordering}
use Rattle.text.specs.Text.{same_text, order_of}
use Rattle.text.specs.BytePairs.{common_start, order_pairs, same_pairs}
use Rattle.text.specs.Inner.{number_order, shorter_of, Told}
use Rattle.text.proofs.Turns.{start-spent, pairs-spent, told-pair, same-lengths}
use Rattle.text.proofs.BytePairs.{lengths-decide, lengths-leave}

module _ (f : ℕ → ℕ) (a b : List ℕ) where
  -- what looking at the pair after i of the common start tells
  pub told-read : (i : ℕ) (o : Ordering) (n : ℕ) → i ≤ common_start (map f a) (map f b)
      → i < length a → i < length b → o ≡ number_order (f (get_or a i 0)) (f (get_or b i 0)) → n ≡ i + 1
      → Told (map f a) (map f b) o n
  told-read i o n h p q e =
      told-pair (map f a) (map f b) i o n h (rw length-map p) (rw length-map q)
      (e ∙ rw (get_or-map f a i 0 0 p, get_or-map f b i 0 0 q))

  -- a text is spent within the common start: the lengths have the order, and no further pair is looked at
  pub spent-read : (i : ℕ) → i ≤ common_start (map f a) (map f b) → shorter_of a b ≤ i
      → (number_order (length a) (length b) ≡ order_of (map f a) (map f b)) × (i ≡ order_pairs (map f a) (map f b))
  spent-read i h s =
      let g : shorter_of (map f a) (map f b) ≤ i = rw (length-map a f, length-map b f) s in
      let r = start-spent (map f a) (map f b) i h g in
      (sym (rw (length-map a f, length-map b f) at r.1), pairs-spent (map f a) (map f b) i r.0 g)

  -- lengths that differ decide whether they are the same, with no pair; else it takes as many as their order
  pub lengths-decide-read : (length a ≡ length b → ⊥)
      → (false ≡ same_text (map f a) (map f b)) × (0 ≡ same_pairs (map f a) (map f b))
  lengths-decide-read n =
      let g : length (map f a) ≡ length (map f b) → ⊥ = λ e. n (sym (length-map a f) ∙ e ∙ length-map b f) in
      (same-lengths (map f a) (map f b) g, sym (lengths-decide (map f a) (map f b) g))

  pub lengths-leave-read : length a ≡ length b → order_pairs (map f a) (map f b) ≡ same_pairs (map f a) (map f b)
  lengths-leave-read e =
      sym (lengths-leave (map f a) (map f b) (length-map a f ∙ e ∙ sym (length-map b f)))
