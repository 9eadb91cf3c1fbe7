-- What is said of one token, from the tests that the code makes. The premises are the facts as a function's record
-- has them.
use mathlib.Core.Path.{◌≡◌, refl, sym, ap, ◌∙◌}
use mathlib.Core.Bool.{Bool, true, false, not}
use Prim.Native.Nat.{ℕ, ◌-◌, ◌≤◌, ◌<◌}
use native.Mathlib.Omega.{arith}
use lib.Dec.{leb, ltb}
use lib.ListN.{length}
use borrow.Author.Tests.{lt-ltb, le-ltb, lt-leb, le-leb, not-true, not-false}
use Rattle.lists.specs.Lists.{table, is_one}
use Rattle.frame.specs.Limits.{max_depth}
use Rattle.frame.specs.Doc.{Doc, kind_of, value_of}
use Rattle.rules.specs.declared.Place.{Place}
use Rattle.rules.specs.declared.Place.TheVariants.{WholeStatement, Clause, SetItem, RemoveItem, Pattern, Part, Element, Expr, MapItem, Name, SpanStart, SpanEnd, WholeSchema, Declaration, LabelItem, RelTypeItem, PropertyType}
use Rattle.rules.specs.Rules.{takes, most_of}
use Rattle.grammar.specs.Machine.{bounded, allowed, judged}
use Rattle.grammar.specs.Inner.{judged_at}
use Rattle.std.specs.Prelude.{Some, None}
use Rattle.frame.specs.Sheet.{fault}

-- a Name below M, the end of a span not below its start
module _ (d : Doc) (p : Place) (v at : ℕ) (ev : v ≡ value_of d at) where
  pub name-bound : (m : ℕ) → length d.names ≡ m → p ≡ Name → ltb v m ≡ bounded d p at
  unfolding bounded
  name-bound m z e = rw (e, z, ← ev)

  pub end-bound : (w : ℕ) → p ≡ SpanEnd → w ≡ value_of d (at - 1) → leb w v ≡ bounded d p at
  unfolding bounded
  end-bound w e ew = rw (e, ← ev, ← ew)

  pub first-bound : p ≡ SpanEnd → at ≡ 0 → true ≡ bounded d p at
  first-bound e z =
      let i : at - 1 ≡ at = omega arith in
      let t : leb v v ≡ true = le-leb v v (omega arith) in
      sym t ∙ end-bound v e (ev ∙ ap (value_of d) (sym i))

-- every other place leaves the value free
pub free_bound : (d : Doc) (p : Place) (at : ℕ) → (p ≡ Name → ⊥) → (p ≡ SpanEnd → ⊥) → true ≡ bounded d p at
unfolding bounded table
free_bound d WholeStatement at h g = refl
free_bound d Clause at h g = refl
free_bound d SetItem at h g = refl
free_bound d RemoveItem at h g = refl
free_bound d Pattern at h g = refl
free_bound d Part at h g = refl
free_bound d Element at h g = refl
free_bound d Expr at h g = refl
free_bound d MapItem at h g = refl
free_bound d Name at h g = absurd (h refl)
free_bound d SpanStart at h g = refl
free_bound d SpanEnd at h g = absurd (g refl)
free_bound d WholeSchema at h g = refl
free_bound d Declaration at h g = refl
free_bound d LabelItem at h g = refl
free_bound d RelTypeItem at h g = refl
free_bound d PropertyType at h g = refl

-- token `at` in a place, of n in all
module _ (d : Doc) (p : Place) (depth at n : ℕ) (z : length d.tokens ≡ n) where
  pub judged-out : n ≤ at → Some (fault 8 at) ≡ judged_at d p depth at
  unfolding judged_at
  judged-out h = simp (z, le-ltb at n h)

  module _ (l : at < n) (b : Bool) (e : b ≡ allowed d p at) where
    pub judged-wrong : not b ≡ true → Some (fault 6 at) ≡ judged_at d p depth at
    unfolding judged_at judged
    judged-wrong h = simp (z, lt-ltb at n l, ← e, not-true b h)

    pub judged-deep : not b ≡ false → max_depth < depth → Some (fault 7 at) ≡ judged_at d p depth at
    unfolding judged_at judged
    judged-deep h g = simp (z, lt-ltb at n l, ← e, not-false b h, lt-leb depth max_depth g)

    pub judged-sound : not b ≡ false → depth ≤ max_depth → None ≡ judged_at d p depth at
    unfolding judged_at judged
    judged-sound h g = simp (z, lt-ltb at n l, ← e, not-false b h, le-leb depth max_depth g)

-- token `at` is allowed: its kind, its value by the kind, and its value by the place
module _ (d : Doc) (p : Place) (at k v : ℕ) (ek : k ≡ kind_of d at) (ev : v ≡ value_of d at) (t : Bool)
    (et : t ≡ is_one (takes p) k) where
  pub allowed-kind : t ≡ false → t ≡ allowed d p at
  unfolding allowed
  allowed-kind h = simp (← ek, ← et, h)

  module _ (h : t ≡ true) (x : ℕ) (r : x ≡ most_of k) where
    pub allowed-value : x < v → false ≡ allowed d p at
    unfolding allowed
    allowed-value g = simp (← ek, ← ev, ← et, h, ← r, lt-leb v x g)

    pub allowed-bound : v ≤ x → bounded d p at ≡ allowed d p at
    unfolding allowed
    allowed-bound g = simp (← ek, ← ev, ← et, h, ← r, le-leb v x g)
