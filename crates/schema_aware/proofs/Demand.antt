-- Demand 3 over the lent bytes: for any two sheets that are accepted and any list, the check lists all breaches, each
-- once, in order, and no others; or says 14, exactly when they outnumber the whole items that fit.
use mathlib.Core.Logic.{⊎_elim, ◌↔◌}
use mathlib.Core.Path.{◌≡◌, ◌∙◌, ap}
use mathlib.Core.List.{List, ◌++◌}
use Prim.Native.Nat.{ℕ, ◌*◌, ◌/◌, ◌≤◌, ◌<◌}
use native.Mathlib.Omega.{arith}
use borrow.Author.Tests.{le-leb, lt-leb}
use lib.ListN.{length, drop}
use Rattle.lists.specs.Lists.{each}
use Rattle.lists.proofs.Tests.{below}
use Rattle.schema.specs.Declarations.{statement_fault, schema_fault}
use Rattle.schema.specs.Effect.{refusal, writes, exit, after_statement, after_schema, Done}
use Rattle.breach.specs.Breach.{Item, numbers, width, statement_in, schema_in}
use Rattle.breach.specs.Listing.{listed}
use Rattle.breach.specs.Order.{AllBreaches}
use Rattle.breach.proofs.Only.{only-list}
use Rattle.breach.proofs.Demand.{demand-3}
use Rattle.schema_aware.specs.Check.{items_effect, check_effect}
use Rattle.schema_aware.proofs.Windows.{each-length}
use Rattle.std.specs.Prelude.{None, Result, Ok, Err}
use Rattle.schema.specs.declared.Refusal.{Refusal}

-- The list of all breaches in order exists for every statement sheet that is accepted and every schema sheet
pub breaches-exist : (st sc : List ℕ) → statement_fault st ≡ None
    → (xs : List Item) × AllBreaches (statement_in st) (schema_in sc) xs
breaches-exist st sc a = (listed (statement_in st) (schema_in sc), (demand-3 st (schema_in sc) a).all)

-- Both sheets are accepted, xs are all breaches in order; r is the check's answer, and left is the list afterwards
module _ (st sc list : List ℕ) (a : statement_fault st ≡ None) (b : schema_fault sc ≡ None) (xs : List Item)
    (all : AllBreaches (statement_in st) (schema_in sc) xs) (r : Result ℕ Refusal) (left : List ℕ)
    (done : Done (check_effect st sc list) list r left) where
  -- both sheets are accepted, so the check does what it does with the list of all breaches, which is xs
  done-with : Done (items_effect xs list) list r left
  unfolding check_effect after_statement after_schema
  done-with =
      let e : listed (statement_in st) (schema_in sc) ≡ xs = only-list (statement_in st) (schema_in sc) _ xs
      (demand-3 st (schema_in sc) a).all all in
      rw (a, b, e) at done

  -- Where all breaches fit, the answer is their number, and the list holds the items of all of them, in order, and
  -- behind them what it held
  pub all_listed : length xs ≤ length list / width
      → (r ≡ Ok (length xs)) × (left ≡ each numbers xs ++ drop (width * length xs) list)
  unfolding items_effect exit
  all_listed h =
      let d : Done (writes (length xs) (each numbers xs)) list r left = rw le-leb at done-with in
      (d.answer, d.buffer ∙ ap (λ (k : ℕ). each numbers xs ++ drop k list) (each-length xs))

  -- Where they outnumber the whole items that fit, the answer is refusal 14 of neither sheet, place 0, and the list is
  -- as it came
  pub too_many : length list / width < length xs
      → (r ≡ Err (record { number = 14; sheet = 0; place = 0 })) × (left ≡ list)
  unfolding items_effect exit
  too_many h =
      let d : Done (refusal 14 0 0) list r left = rw lt-leb at done-with in
      (d.answer, d.buffer)

  -- The answer is 14 exactly when all breaches outnumber the whole items that fit
  pub fourteen-exactly : (r ≡ Err (record { number = 14; sheet = 0; place = 0 }))
      ↔ (length list / width < length xs)
  fourteen-exactly = (
    (λ e. ⊎_elim (λ h. h) (λ h. let f : r ≡ Ok (length xs) = (all_listed h).0 in absurd
        (let z : ◌≡◌ {A = ℕ} 0 1 = cc (e, f) in omega arith)) (below (length list / width) (length xs))),
    λ h. (too_many h).0,
  )
