-- The refusals of row_statement: `refusals` and `row-numbered`.
use mathlib.Core.Path.{◌≡◌, refl, sym}
use mathlib.Core.List.{List, [], ◌∷◌}
use mathlib.Core.Bool.{Bool, true, false}
use Prim.Native.Nat.{ℕ, ◌<◌}
use native.Mathlib.Omega.{arith}
use lib.Dec.{eqb, leb}
use lib.ListN.{length}
use Rattle.lists.specs.Lists.{pick, both, nth}
use Rattle.utf8.specs.Utf8.{utf8}
use Rattle.frame.specs.Doc.{Doc}
use Rattle.frame.specs.declared.Fault.{Fault}
use Rattle.frame.proofs.Numbered.{same_fault}
use Rattle.schema.specs.Effect.{Effect, refusal, writes, unless_refused, fitted}
use Rattle.schema.proofs.Refusals.{Numbered}
use Rattle.written.specs.Written.{written, within_limits}
use Rattle.rfc4180.specs.Cells.{Cell, Row}
use Rattle.rfc4180.specs.Csv.{rows_of}
use Rattle.row_paper.specs.Paper.{paper_of}
use Rattle.row_writer.specs.Writing.{max_number, next_number, name_fault_of, paper_effect}
use Rattle.rows.specs.Rows.{row_effect, rows_effect, unless_broken, row_statement}
use Rattle.std.specs.Prelude.{Some, None}
use Rattle.frame.specs.Sheet.{fault}
use Rattle.std.specs.Prelude.{Option}

-- the five refusals, by number, sheet and place: only 5 has a sheet and a place
pub data RowRefusal : (number sheet place : ℕ) → Type 0 where
  broken_text : RowRefusal 17 0 0
  no_such_row : RowRefusal 18 0 0
  name_not_utf8 : (k : ℕ) → RowRefusal 5 1 k
  past_limit : RowRefusal 19 0 0
  no_room : RowRefusal 16 0 0

-- if an effect is a refusal, it is one of the five
abbrev pub Refuses : Effect → Type 0
Refuses a = (n s p : ℕ) → a ≡ refusal n s p → RowRefusal n s p

of-refusal : {m t q : ℕ} → RowRefusal m t q → Refuses (refusal m t q)
of-refusal {m} {t} {q} h n s p e =
    let a : m ≡ n = cc in let b : t ≡ s = cc in let d : q ≡ p = cc in rw (a, b, d) at h

of-writes : (count : ℕ) (xs : List ℕ) → Refuses (writes count xs)
of-writes count xs n s p e = let z : ◌≡◌ {A = ℕ} 0 1 = cc in absurd (omega arith)

of-choice : (t : Bool) {a b : Effect} → Refuses a → Refuses b → Refuses (pick t a b)
of-choice true x y = x
of-choice false x y = y

name-fault-is : (ns : List (List ℕ)) (k : ℕ) {m q : ℕ} → name_fault_of k ns ≡ Some (fault m q) → m ≡ 5
unfolding name_fault_of
name-fault-is [] k e = absurd (let z : ◌≡◌ {A = ℕ} 0 1 = cc in omega arith)
name-fault-is (n ∷ ns) k {m} {q} e =
    first (utf8 n) e (λ f. name-fault-is ns (next_number k) f)
  where
    first : (t : Bool) → pick t (name_fault_of (next_number k) ns) (Some (fault 5 k)) ≡ Some (fault m q)
        → (name_fault_of (next_number k) ns ≡ Some (fault m q) → m ≡ 5) → m ≡ 5
    first true e f = f e
    first false e f = sym (same_fault e).0

of-paper : (d : Doc) (stop : ℕ) (out : List ℕ) → Refuses (paper_effect d stop out)
unfolding paper_effect fitted
of-paper d stop out = unless (name_fault_of 0 d.names) refl
  where
    next : Effect
    next = pick (both (within_limits d) (leb stop max_number)) (fitted (length (written d)) (written d) out)
        (refusal 19 0 0)

    fits : Refuses next
    fits = of-choice (both (within_limits d) (leb stop max_number))
        (of-choice (leb (length (written d)) (length out)) (of-writes (length (written d)) (written d))
        (of-refusal no_room))
        (of-refusal past_limit)

    unless : (x : Option Fault) → name_fault_of 0 d.names ≡ x → Refuses (unless_refused 1 x next)
    unless None e = fits
    unless (Some u) e =
        let f : u.number ≡ 5 = name-fault-is d.names 0 e in rw f (of-refusal (name_not_utf8 u.place))

of_row : (label : List ℕ) (header : List Cell) (o : Option Row) (out : List ℕ) → Refuses (row_effect label header o out)
unfolding row_effect
of_row label header None out = of-refusal no_such_row
of_row label header (Some r) out = of-choice (eqb (length r.cells) (length header))
    (of-paper (paper_of label header r) r.stop out) (of-refusal no_such_row)

of-rows : (label : List ℕ) (k : ℕ) (rows : List Row) (out : List ℕ) → Refuses (rows_effect label k rows out)
unfolding rows_effect
of-rows label k [] out = of-refusal no_such_row
of-rows label k (header ∷ rows) out = of_row label header.cells (nth rows k) out

-- Every refusal of row_statement is 17, 18, 5, 19 or 16; 5 has sheet 1 and a place, the others sheet and place 0
pub refusals : (text label : List ℕ) (k : ℕ) (out : List ℕ) → Refuses (row_statement text label k out)
unfolding row_statement
refusals text label k out = unless (rows_of text)
  where
    unless : (o : Option (List Row)) → Refuses (unless_broken o (λ rows. rows_effect label k rows out))
    unless None = of-refusal broken_text
    unless (Some rows) = of-rows label k rows out

above_zero : {n s p : ℕ} → RowRefusal n s p → 0 < n
above_zero broken_text = omega arith
above_zero no_such_row = omega arith
above_zero (name_not_utf8 k) = omega arith
above_zero past_limit = omega arith
above_zero no_room = omega arith

-- Every refusal of row_statement has a number above 0
pub row-numbered : (text label : List ℕ) (k : ℕ) (out : List ℕ) → Numbered (row_statement text label k out)
row-numbered text label k out n s p e = above_zero (refusals text label k out n s p e)
