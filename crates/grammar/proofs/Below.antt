-- What stands below a token, by the place that took it.
use mathlib.Core.Path.{◌≡◌, refl, sym, ap, ◌∙◌, subst}
use mathlib.Core.List.{List, [], ◌∷◌, ◌++◌, append_assoc}
use Prim.Native.Nat.{ℕ, zero, suc, ◌+◌, ◌/◌, ◌%◌, ◌≤◌, ◌<◌}
use native.Mathlib.Omega.{arith}
use lib.ListN.{get_or}
use Rattle.lists.specs.Lists.{table, first, any_of, is_empty}
use Rattle.lists.proofs.Ranges.{every_from, every-at}
use Rattle.frame.specs.Doc.{Doc, kind_of, value_of}
use Rattle.rules.specs.declared.Place.{Place}
use Rattle.rules.specs.declared.Place.TheVariants.{Element, Expr, Name, SpanStart, SpanEnd}
use Rattle.rules.specs.declared.Shape.{Shape}
use Rattle.rules.specs.Rules.{takes, rules, most_of, opens, many, pairs}
use Rattle.grammar.specs.Machine.{Want, want, opened}
use Rattle.rules.specs.Shapes.{span_places, shaped, Ruled}
use Rattle.grammar.specs.Inner.{from, children_from, Leaf}
use Rattle.rules.proofs.Rows.{empty-is, taken-by}
use Rattle.rules.proofs.Children.{element_places, element-opens, many-at}
use Rattle.grammar.proofs.Laws.{Entered, opened-many, opened-span, opened-shape}
use Rattle.std.specs.Prelude.{Result}
use Rattle.frame.specs.declared.Fault.{Fault}

-- ---- what a place's kinds open
pub leaf-name : Leaf Name
unfolding takes opens rules first any_of table
leaf-name k v h = taken-by (λ k. opens k v ≡ []) (50 ∷ []) k h (refl, tt)

pub leaf-span-start : Leaf SpanStart
unfolding takes opens rules first any_of table
leaf-span-start k v h = taken-by (λ k. opens k v ≡ []) (51 ∷ []) k h (refl, tt)

pub leaf-span-end : Leaf SpanEnd
unfolding takes opens rules first any_of table
leaf-span-end k v h = taken-by (λ k. opens k v ≡ []) (51 ∷ []) k h (refl, tt)

-- the children of an element, up to its properties
pub element-leaf : (v c : ℕ) → c < 2 + v / 2 → Leaf (get_or (element_places v) c Expr)
element-leaf v zero h = leaf-span-start
element-leaf v (suc zero) h = leaf-span-end
element-leaf v (suc (suc c)) h = subst (λ (p : Place). Leaf p)
    (sym (many-at (v / 2) c Name Expr (many (v % 2) Expr []) (omega arith))) leaf-name

-- the literals, Var, Param and the two that are deferred
pub small-opens : (k v : ℕ) → k < 10 → opens k v ≡ []
unfolding every_from opens rules first any_of table
small-opens k v h = sym (empty-is (opens k v) (every-at (λ k. is_empty (opens k v)) 10 0 k refl (omega arith)
    (omega arith)))

-- ---- what is read below a token
module _ {d : Doc} {p : Place} {depth at : ℕ} (i : Entered d p depth at) where
  pub through : (ps : List Place) {r : Result ℕ Fault} → opens (kind_of d at) (value_of d at) ≡ ps → r ≡ from d (at + 1)
      (opened (depth + 1) ps [])
      → r ≡ from d at (want p depth ∷ [])
  through ps e f = f ∙ sym (i.goes ∙ ap (λ (qs : List Place). from d (at + 1) (opened (depth + 1) qs [])) e)

  pub children-goes : {r : Result ℕ Fault} → r ≡ children_from d at depth → r ≡ from d at (want p depth ∷ [])
  unfolding children_from
  children-goes f = f ∙ sym i.goes

module _ {d : Doc} {depth at : ℕ} (v : ℕ) (ev : v ≡ value_of d at) where
  pub element-goes : (i : Entered d Element depth at) {r : Result ℕ Fault}
      → r ≡ from d (at + 1) ((opened (depth + 1) (span_places 1 []) [] ++ opened (depth + 1)
      (many (v / 2) Name []) []) ++ opened (depth + 1) (many (v % 2) Expr []) [])
      → r ≡ from d at (want Element depth ∷ [])
  unfolding many takes table
  element-goes i f =
      let named = many (v / 2) Name (many (v % 2) Expr []) in
      let e = element-opens (kind_of d at) (value_of d at) i.taken in
      let g : opened (depth + 1) (span_places 1 named) []
      ≡ (opened (depth + 1) (span_places 1 []) [] ++ opened (depth + 1) (many (v / 2) Name []) []) ++ opened
      (depth + 1) (many (v % 2) Expr []) [] =
      opened-span (depth + 1) 1 named
      ∙ ap (λ (ws : List Want). opened (depth + 1) (span_places 1 []) [] ++ ws)
      (opened-many (depth + 1) (v / 2) Name (many (v % 2) Expr []))
      ∙ simp append_assoc in
      through i (span_places 1 named) (rw ev e) (f ∙ ap (from d (at + 1)) (sym g))

-- by the rule of the token's kind
pub rule-goes : (d : Doc) (depth at k v : ℕ) (x : Shape) → k ≡ kind_of d at → v ≡ value_of d at → Ruled k v x → value_of
    d at ≤ most_of (kind_of d at) → {r : Result ℕ Fault}
    → r ≡ from d (at + 1) ((((opened (depth + 1) (span_places x.spans []) [] ++ opened (depth + 1)
    (many x.names Name []) []) ++ opened (depth + 1) (pairs x.pairs []) []) ++ opened (depth + 1)
    (many x.firsts x.first []) [])
    ++ opened (depth + 1) (many x.seconds x.second []) [])
    → r ≡ children_from d at depth
unfolding children_from
rule-goes d depth at k v x ek ev h m f =
    let o : shaped x ≡ opens (kind_of d at) (value_of d at) = rw (← ek, ← ev) (h.below (rw (ek, ev) m)) in
    f ∙ ap (from d (at + 1)) (sym (opened-shape (depth + 1) x)) ∙ ap
    (λ (ps : List Place). from d (at + 1) (opened (depth + 1) ps [])) o
