-- The margin list's answers, from the check's.
use mathlib.Core.Path.{◌≡◌, refl, sym, ap, ◌∙◌}
use mathlib.Core.Bool.{Bool, true, false}
use mathlib.Core.List.{List, ◌++◌}
use Prim.Native.Nat.{ℕ, ◌*◌, ◌/◌, ◌≤◌}
use native.Mathlib.Omega.{arith}
use lib.Dec.{leb}
use lib.ListN.{length, drop, length-append}
use Rattle.lists.specs.Lists.{pick, each}
use Rattle.frame.specs.Limits.{max_tokens}
use Rattle.frame.specs.Sheet.{sheet_of, frame_fault}
use Rattle.frame.specs.Doc.{doc_of}
use Rattle.frame.specs.declared.Fault.{Fault}
use Rattle.frame.proofs.Laws.{or-else, sound}
use Rattle.rules.specs.declared.Place.TheVariants.{WholeStatement}
use Rattle.grammar.specs.Machine.{grammar_fault}
use Rattle.grammar.proofs.Skipping.{size_is}
use Rattle.schema.specs.declared.Refusal.{Refusal}
use Rattle.schema.specs.Declarations.{statement_fault, schema_fault}
use Rattle.schema.specs.Effect.{Effect, refusal, writes, answer_of, exit, unless_refused, after_statement, after_schema, Done}
use Rattle.in_order.proofs.Sorting.{sorted-length}
use Rattle.breach.specs.Breach.{Item, numbers, width, statement_in, schema_in}
use Rattle.breach.specs.Listing.{listed}
use Rattle.breach.proofs.Demand.{demand-3}
use Rattle.schema_aware.specs.Check.{items_effect, check_effect}
use Rattle.schema_aware.proofs.Windows.{each-length}
use Rattle.sorting.specs.Items.{keys, sorted_items}
use Rattle.sorting.proofs.Written.{written-sorted}
use Rattle.margin.specs.Margin.{margin_keys, Margin, margin_of, margin_effect}
use Rattle.margin.proofs.Margins.{margin-of}
use Rattle.std.specs.Prelude.{Option, Some, None, Result, Ok, Err}

-- what both operations do once the sheets are read: n items are written, if they fit
abbrev after : Option Fault → Option Fault → Bool → ℕ → List ℕ → Effect
after a b fits n ws = unless_refused 1 a (unless_refused 2 b (pick fits (writes n ws) (refusal 14 0 0)))

-- the answer says nothing of what is written
same_after : (a b : Option Fault) (fits : Bool) (n : ℕ) (ws vs : List ℕ) → answer_of (after a b fits n ws) ≡ answer_of (after a b fits n vs)
same_after (Some u) b fits n ws vs = refl
same_after None (Some u) fits n ws vs = refl
same_after None None true n ws vs = refl
same_after None None false n ws vs = refl

-- a refusal says nothing of what would be written
same-refusal : (a b : Option Fault) (fits : Bool) (n : ℕ) (ws vs l : List ℕ) (q : Refusal) (left : List ℕ)
    → Done (after a b fits n ws) l (Err q) left → Done (after a b fits n vs) l (Err q) left
unfolding exit
same-refusal (Some u) b fits n ws vs l q left d = record { answer = d.answer; buffer = d.buffer }
same-refusal None (Some u) fits n ws vs l q left d = record { answer = d.answer; buffer = d.buffer }
same-refusal None None true n ws vs l q left d = let e = d.answer in absurd (let z : ◌≡◌ {A = ℕ} 0 1 = cc in omega arith)
same-refusal None None false n ws vs l q left d = record { answer = d.answer; buffer = d.buffer }

-- n items are accepted: both sheets are, and the items fit and are written
record Went (a b : Option Fault) (fits : Bool) (n : ℕ) (ws l : List ℕ) (k : ℕ) (left : List ℕ) : Type 0 where
  pub statement : a ≡ None
  pub schema : b ≡ None
  pub room : fits ≡ true
  pub count : k ≡ n
  pub list : left ≡ ws ++ drop (length ws) l

went : (a b : Option Fault) (fits : Bool) (n : ℕ) (ws l : List ℕ) (k : ℕ) (left : List ℕ)
    → Done (after a b fits n ws) l (Ok k) left → Went a b fits n ws l k left
unfolding exit
went (Some u) b fits n ws l k left d = let e = d.answer in absurd (let z : ◌≡◌ {A = ℕ} 0 1 = cc in omega arith)
went None (Some u) fits n ws l k left d = let e = d.answer in absurd (let z : ◌≡◌ {A = ℕ} 0 1 = cc in omega arith)
went None None false n ws l k left d = let e = d.answer in absurd (let z : ◌≡◌ {A = ℕ} 0 1 = cc in omega arith)
went None None true n ws l k left d =
    let e = d.answer in
    record { statement = refl; schema = refl; room = refl; count = cc; list = d.buffer }

module _ (st sc l : List ℕ) where
  abbrev items : List Item
  items = listed (statement_in st) (schema_in sc)

  abbrev fits : Bool
  fits = leb (length items) (length l / width)

  -- over any two faults, so that what differs stands at a variable
  in-turn : (a b : Option Fault) → statement_fault st ≡ a → schema_fault sc ≡ b
      → margin_effect st sc l ≡ after a b fits (length items) (each numbers (margin_of items))
  unfolding margin_effect items_effect after_statement after_schema
  in-turn a b e f = rw (e, f)
      (ap (λ (n : ℕ). after a b (leb n (length l / width)) n (each numbers (margin_of items))) (sorted-length margin_keys items))

  margin-is : margin_effect st sc l ≡ after (statement_fault st) (schema_fault sc) fits (length items)
      (each numbers (margin_of items))
  margin-is = in-turn (statement_fault st) (schema_fault sc) refl refl

  -- Answered as the check answers
  pub same-answers : answer_of (margin_effect st sc l) ≡ answer_of (check_effect st sc l)
  unfolding check_effect items_effect after_statement after_schema
  same-answers = ap answer_of margin-is
      ∙ same_after (statement_fault st) (schema_fault sc) fits (length items) (each numbers (margin_of items)) (each numbers items)

  -- Refused where the check is, with the same refusal
  pub refused-alike : {r : Result ℕ Refusal} {left : List ℕ} → Done (check_effect st sc l) l r left → (q : Refusal) → r ≡ Err q
      → Done (margin_effect st sc l) l r left
  unfolding check_effect items_effect after_statement after_schema
  refused-alike {r} {left} d q e = rw (margin-is, e)
      (same-refusal (statement_fault st) (schema_fault sc) fits (length items) (each numbers items)
      (each numbers (margin_of items)) l q left (rw e at d))

  module _ {r : Result ℕ Refusal} {left : List ℕ} (d : Done (check_effect st sc l) l r left) (k : ℕ) (e : r ≡ Ok k) where
    accepted : Went (statement_fault st) (schema_fault sc) fits (length items) (each numbers items) l k left
    unfolding check_effect items_effect after_statement after_schema
    accepted = went (statement_fault st) (schema_fault sc) fits (length items) (each numbers items) l k left
        (rw e at d)

    -- the items stand in the list, and they are few
    pub items-there : width * k ≤ length left
    items-there =
        omega (arith, ap length accepted.list, accepted.count, each-length items, length-append (each numbers items) (drop (length (each numbers items)) l))

    pub items-few : k ≤ max_tokens
    unfolding statement_fault
    items-few =
        let r = or-else (frame_fault st) (grammar_fault WholeStatement (doc_of st)) accepted.statement in
        let f = sound st (sheet_of st) r.0 refl in
        omega (arith, accepted.count, (demand-3 st (schema_in sc) accepted.statement).few, size_is st (sheet_of st) f, f.few_tokens)

    -- sorted, they are the margin list
    pub sorted-there : {last : List ℕ} → last ≡ sorted_items left k → Done (margin_effect st sc l) l (Ok k) last
    unfolding exit keys
    sorted-there h =
        let a = accepted in
        let w : sorted_items left k ≡ each numbers (margin_of items) ++ drop (length (each numbers items)) l =
        ap (λ (m : ℕ). sorted_items left m) a.count ∙ ap (λ (m : List ℕ). sorted_items m (length items)) a.list
        ∙ written-sorted numbers (λ x. refl) items (drop (length (each numbers items)) l) in
        let n : length (each numbers items) ≡ length (each numbers (margin_of items)) = each-length items
        ∙ ap (λ (m : ℕ). width * m) (sym (sorted-length margin_keys items)) ∙ sym (each-length (margin_of items)) in
        rw (margin-is, a.statement, a.schema, a.room) (record {
          answer = ap Ok a.count;
          buffer = h ∙ w ∙ ap (λ (m : ℕ). each numbers (margin_of items) ++ drop m l) n;
        })

-- what both operations wrote, where they are accepted: the check its list, and the margin list that list's
pub record OfChecked (list : List ℕ) (n : ℕ) (r : Result ℕ Refusal) (checked left : List ℕ) (xs ys : List Item) : Type 0 where
  pub margin : Margin xs ys
  pub count : length xs ≡ n
  pub answer : r ≡ Ok n
  pub check_wrote : checked ≡ each numbers xs ++ drop (width * n) list
  pub margin_wrote : left ≡ each numbers ys ++ drop (width * n) list

pub both-wrote : (st sc l : List ℕ) (n : ℕ) (r : Result ℕ Refusal) (checked left : List ℕ) → Done (check_effect st sc l) l (Ok n) checked
    → Done (margin_effect st sc l) l r left → OfChecked l n r checked left (items st sc l) (margin_of (items st sc l))
both-wrote st sc l n r checked left c d =
    let a = accepted st sc l c n refl in
    let e : r ≡ Ok n = d.answer ∙ same-answers st sc l ∙ sym c.answer in
    let w = went (statement_fault st) (schema_fault sc) (fits st sc l) (length (items st sc l))
    (each numbers (margin_of (items st sc l))) l n left (rw (margin-is st sc l, e) at d) in
    let k : length (each numbers (items st sc l)) ≡ width * n = each-length (items st sc l) ∙ ap (λ (m : ℕ). width * m) (sym a.count) in
    let m : length (each numbers (margin_of (items st sc l))) ≡ width * n = each-length (margin_of (items st sc l))
    ∙ ap (λ (i : ℕ). width * i) (sorted-length margin_keys (items st sc l) ∙ sym a.count) in
    record {
      margin = margin-of (items st sc l);
      count = sym a.count;
      answer = e;
      check_wrote = a.list ∙ ap (λ (i : ℕ). each numbers (items st sc l) ++ drop i l) k;
      margin_wrote = w.list ∙ ap (λ (i : ℕ). each numbers (margin_of (items st sc l)) ++ drop i l) m;
    }
