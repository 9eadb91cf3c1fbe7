-- What an operation does, from what opening its sheets answered.
use mathlib.Core.Path.{◌≡◌, refl, sym, ap, ◌∙◌}
use mathlib.Core.List.{List}
use mathlib.Core.Bool.{Bool, true, false}
use Prim.Native.Nat.{ℕ, ◌≤◌}
use native.Mathlib.Omega.{arith}
use borrow.Author.Tests.{leb-true}
use lib.ListN.{length}
use lib.Dec.{leb}
use Rattle.lists.specs.Lists.{pick}
use Rattle.frame.specs.Sheet.{sheet_of, fault}
use Rattle.frame.specs.declared.Sheet.{Sheet}
use Rattle.frame.specs.declared.Fault.{Fault}
use Rattle.frame.proofs.Laws.{answer-of, refused-of}
use Rattle.schema.specs.declared.Refusal.{Refusal}
use Rattle.schema.specs.Declarations.{statement_fault, schema_fault}
use Rattle.schema.specs.Inner.{schema_frame, both_answered, open_both, both_sizes}
use Rattle.schema.specs.Effect.{Effect, refusal, writes, answer_of, exit, unless_refused, after_statement, after_schema, after_both, read_statement, fitted, Done}
use Rattle.schema.proofs.Openings.{no-faults}
use Rattle.std.specs.Prelude.{Option, Some, None, Result, Ok, Err}
use Rattle.frame.specs.declared.Sizes.{Sizes}

-- a refusal keeps the lent buffer
pub refuses : (n s p : ℕ) (l : List ℕ) {r : Result ℕ Refusal} → r ≡ answer_of (refusal n s p) → Done (refusal n s p) l r l
unfolding exit
refuses n s p l e = record { answer = e; buffer = refl }

-- ---- what is written
-- a refusal writes nothing
pub writes_nothing : {n s p m : ℕ} {xs : List ℕ} {A : Type 0} → refusal n s p ≡ writes m xs → A
writes_nothing e = absurd (let z : ◌≡◌ {A = ℕ} 0 1 = cc in omega arith)

-- where something is written, no sheet was refused
pub unrefused : (sheet : ℕ) (q : Option Fault) (next : Effect) (n : ℕ) (xs : List ℕ)
    → unless_refused sheet q next ≡ writes n xs → (q ≡ None) × (next ≡ writes n xs)
unrefused sheet None next n xs e = (refl, e)
unrefused sheet (Some u) next n xs e = writes_nothing e

-- where what fits is written, it is all of it, with its number, and there was room
pub fitted-wrote : (count : ℕ) (xs lent : List ℕ) (n : ℕ) (ys : List ℕ) → fitted count xs lent ≡ writes n ys
    → (xs ≡ ys) × (count ≡ n) × (length xs ≤ length lent)
unfolding fitted
fitted-wrote count xs lent n ys e = go (leb (length xs) (length lent)) refl e
  where
    go : (t : Bool) → leb (length xs) (length lent) ≡ t → pick t (writes count xs) (refusal 16 0 0) ≡ writes n ys
        → (xs ≡ ys) × (count ≡ n) × (length xs ≤ length lent)
    go true g e = let a : xs ≡ ys = cc in let b : count ≡ n = cc in (a, b, leb-true (length xs) (length lent) g)
    go false g e = writes_nothing e

-- a statement without fault is read
pub read-accepted : (xs : List ℕ) → statement_fault xs ≡ None → answer_of (read_statement xs) ≡ Ok 0
unfolding after_statement
read-accepted xs e = rw e

-- ---- over a schema
module _ (d l : List ℕ) (next : Effect) (q : Result Sheet Fault) (e : q ≡ schema_frame d) where
  pub schema-refuses : (n p : ℕ) {o : Result ℕ Refusal} {l' : List ℕ} → q ≡ Err (fault n p) → Done (refusal n 2 p) l o l' → Done
      (after_schema d next) l o l'
  unfolding schema_frame after_schema
  schema-refuses n p h w =
      let r : schema_fault d ≡ Some (fault n p) = refused-of (schema_fault d) (sheet_of d) n p (sym e ∙ h) in
      rw r w

  pub schema-goes-on : (f : Sheet) {o : Result ℕ Refusal} {l' : List ℕ} → q ≡ Ok f → Done next l o l' → Done
      (after_schema d next) l o l'
  unfolding schema_frame after_schema
  schema-goes-on f h w =
      let r : schema_fault d ≡ None = (answer-of (schema_fault d) (sheet_of d) f (sym e ∙ h)).0 in
      rw r w

-- ---- over a statement and a schema
neither-of : (a b : Option Fault) (x y : Sheet) (r : Refusal) (next : Effect) (l : List ℕ) → both_answered a b x y
    ≡ Err r → Done (unless_refused 1 a (unless_refused 2 b next)) l (Err r) l
neither-of (Some u) b x y r next l e = let h : r ≡ record { number = u.number; sheet = 1; place = u.place } = cc in refuses u.number 1 u.place l
    (ap Err h)
neither-of None (Some u) x y r next l e = let h : r ≡ record { number = u.number; sheet = 2; place = u.place } = cc in refuses u.number
    2 u.place l (ap Err h)
neither-of None None x y r next l e = absurd (let z : ◌≡◌ {A = ℕ} 0 1 = cc in omega arith)

module _ (s d l : List ℕ) (next : Effect) (q : Result Sizes Refusal) (e : q ≡ open_both s d) where
  pub both-refuse : (r : Refusal) → q ≡ Err r → Done (after_both s d next) l (Err r) l
  unfolding open_both after_statement after_schema
  both-refuse r h = neither-of (statement_fault s) (schema_fault d) (sheet_of s) (sheet_of d) r next l (sym e ∙ h)

  pub both-go-on : (f g : Sheet) {o : Result ℕ Refusal} {l' : List ℕ} → q ≡ Ok (both_sizes f g) → Done next l o l' → Done
      (after_both s d next) l o l'
  unfolding after_statement after_schema
  both-go-on f g h w = let r = no-faults s d f g q e h in rw (r.0, r.1) w
