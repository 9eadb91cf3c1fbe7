-- The margin list over the lent bytes: the answer is the check's for any bytes; and for any two sheets that are
-- accepted and any list that is long enough, what is written is the margin list of all breaches.
use mathlib.Core.Logic.{◌↔◌}
use mathlib.Core.Path.{◌≡◌, refl, ap, ◌∙◌}
use mathlib.Core.List.Permᴰ
use mathlib.Core.List.{List, ◌++◌, Memᴰ}
use Prim.Native.Nat.{ℕ, ◌*◌, ◌/◌, ◌≤◌, ◌<◌}
use native.Mathlib.Omega.{arith}
use borrow.Author.Tests.{le-leb, lt-leb}
use lib.ListN.{length, drop}
use Rattle.lists.specs.Lists.{each}
use Rattle.lists.proofs.Joins.{perm-mem}
use Rattle.schema.specs.Declarations.{statement_fault, schema_fault}
use Rattle.schema.specs.Effect.{refusal, writes, answer_of, exit, after_statement, after_schema, Done}
use Rattle.grammar.specs.Tree.{Tree}
use Rattle.provider.specs.Schema.{Schema}
use Rattle.in_order.proofs.Sorting.{sorted-length}
use Rattle.breach.specs.Breach.{Item, Breach, numbers, width, statement_in, schema_in}
use Rattle.breach.specs.Listing.{listed}
use Rattle.breach.specs.Order.{whole_key, Ascending, AllBreaches}
use Rattle.breach.proofs.Only.{same-list, only-list}
use Rattle.breach.proofs.Demand.{demand-3}
use Rattle.schema_aware.specs.Check.{items_effect, check_effect}
use Rattle.schema_aware.proofs.Windows.{each-length}
use Rattle.margin.specs.Margin.{margin_keys, Margin, margin_effect}
use Rattle.margin.proofs.Margins.{computed}
use Rattle.margin.proofs.Answers.{same-answers, OfChecked, both-wrote}
use Rattle.margin.proofs.Ascends.{sorted-ascends}
use Rattle.std.specs.Prelude.{None, Result, Ok, Err}
use Rattle.schema.specs.declared.Refusal.{Refusal}

-- For any bytes the margin list has the check's answer: its refusals, 14 included, and the same number of items
pub same_answer : (st sc list : List ℕ) → answer_of (margin_effect st sc list) ≡ answer_of (check_effect st sc list)
same_answer = same-answers

-- Whatever bytes are lent: where the check is accepted, both lists are written, and the one of margin_list is a
-- rearrangement of the check's, by span start, equal starts in the check's order (`OfChecked` has `Margin`)
pub of-checked : (st sc list : List ℕ) (n : ℕ) (r : Result ℕ Refusal) (checked left : List ℕ)
    → Done (check_effect st sc list) list (Ok n) checked → Done (margin_effect st sc list) list r left
    → (xs : List Item) × (ys : List Item) × OfChecked list n r checked left xs ys
of-checked st sc list n r checked left c d = (_, _, both-wrote st sc list n r checked left c d)

-- ---- what the margin list of all breaches is
-- by span start, equal starts in list order: the order as one list of keys
abbrev pub margin_order : Item → List ℕ
margin_order x = margin_keys x ++ whole_key x

module _ (t : Tree) (s : Schema) (xs ys : List Item) (all : AllBreaches t s xs) (m : Margin xs ys) where
  -- An item is in it exactly when it is a breach of a token
  pub margin-exact : (x : Item) → Memᴰ x ys ↔ ((i : ℕ) × Breach t s i x)
  margin-exact x = (
    (λ h. (all.exact x).0 (perm-mem m.rearranged h)),
    λ h. perm-mem (Permᴰ.symm m.rearranged) ((all.exact x).1 h),
  )

  -- It ascends strictly by span start and then by the check's order, so each item stands once
  pub margin-ascending : Ascending margin_order ys
  margin-ascending = rw (computed xs ys m) (sorted-ascends margin_keys whole_key (λ x y. refl) xs all.ascending)

  -- And no other list does both
  pub margin-determined : (zs : List Item) → ((x : Item) → Memᴰ x zs ↔ ((i : ℕ) × Breach t s i x))
      → Ascending margin_order zs → zs ≡ ys
  margin-determined zs e a =
      same-list margin_order zs ys a margin-ascending (λ z h. (margin-exact z).1 ((e z).0 h)) (λ z h. (e z).1 ((margin-exact z).0 h))

-- ---- over the lent bytes
-- Both sheets are accepted, xs are all breaches in order, and ys is their margin list, both of which there are
-- (`breaches-exist` of `schema_aware`, `margin-of`); r is the answer of margin_list, and left is the list afterwards
module _ (st sc list : List ℕ) (a : statement_fault st ≡ None) (b : schema_fault sc ≡ None) (xs ys : List Item)
    (all : AllBreaches (statement_in st) (schema_in sc) xs) (m : Margin xs ys) (r : Result ℕ Refusal) (left : List ℕ)
    (done : Done (margin_effect st sc list) list r left) where
  -- what is done is done with ys
  done-with : Done (items_effect ys list) list r left
  unfolding margin_effect after_statement after_schema
  done-with =
      let e : listed (statement_in st) (schema_in sc) ≡ xs = only-list (statement_in st) (schema_in sc) _ xs
      (demand-3 st (schema_in sc) a).all all in
      rw (computed xs ys m) (rw (a, b, e) at done)

  as_many : length ys ≡ length xs
  as_many = ap length (computed xs ys m) ∙ sorted-length margin_keys xs

  -- Where all breaches fit, the answer is their number, and the list holds the items of all of them, as the margin list
  -- has them, and behind them what it held
  pub margin-listed : length xs ≤ length list / width
      → (r ≡ Ok (length xs)) × (left ≡ each numbers ys ++ drop (width * length xs) list)
  unfolding items_effect exit
  margin-listed h =
      let n = as_many in
      let g : length ys ≤ length list / width = omega (arith, n) in
      let d : Done (writes (length ys) (each numbers ys)) list r left = rw (le-leb (length ys) (length list / width) g) at done-with in (
        d.answer ∙ ap Ok n,
        d.buffer ∙ ap (λ (k : ℕ). each numbers ys ++ drop k list) (each-length ys ∙ ap (λ (k : ℕ). width * k) n),
      )

  -- Where they outnumber the whole items that fit, the answer is refusal 14 of neither sheet, place 0, and the list is
  -- as it came
  pub margin-too-many : length list / width < length xs
      → (r ≡ Err (record { number = 14; sheet = 0; place = 0 })) × (left ≡ list)
  unfolding items_effect exit
  margin-too-many h =
      let n = as_many in
      let g : length list / width < length ys = omega (arith, n) in
      let d : Done (refusal 14 0 0) list r left = rw (lt-leb (length ys) (length list / width) g) at done-with in
      (d.answer, d.buffer)
