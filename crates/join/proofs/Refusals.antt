-- The refusals of join_statements: `refusals` and `join-numbered`.
use mathlib.Core.Path.{◌≡◌, refl}
use mathlib.Core.Bool.{Bool, true, false}
use mathlib.Core.List.{List}
use Prim.Native.Nat.{ℕ, ◌≤◌, ◌<◌}
use native.Mathlib.Omega.{arith}
use lib.ListN.{length}
use lib.Dec.{leb}
use Rattle.lists.specs.Lists.{pick}
use Rattle.frame.specs.Doc.{Doc, doc_of}
use Rattle.frame.specs.declared.Fault.{Fault}
use Rattle.frame.proofs.Numbered.{NumberedFault}
use Rattle.schema.specs.Declarations.{statement_fault}
use Rattle.schema.specs.Effect.{Effect, refusal, writes, unless_refused, fitted}
use Rattle.schema.proofs.Refusals.{statement-numbered, Numbered}
use Rattle.written.specs.Written.{written, within_limits}
use Rattle.join.specs.Join.{joined, join_effect, join_statements}
use Rattle.std.specs.Prelude.{Option, Some, None}
use Rattle.frame.specs.Sheet.{fault}

-- the refusals, by number, sheet and place: 1 to 9 of the first sheet and of the second; 20 and 16 have sheet and place
-- 0
pub data JoinRefusal : (number sheet place : ℕ) → Type 0 where
  of_first : (n p : ℕ) → 1 ≤ n → n ≤ 9 → JoinRefusal n 1 p
  of_second : (n p : ℕ) → 1 ≤ n → n ≤ 9 → JoinRefusal n 2 p
  past_limit : JoinRefusal 20 0 0
  no_room : JoinRefusal 16 0 0

-- if an effect is a refusal, it is one of these
abbrev pub Refuses : Effect → Type 0
Refuses a = (n s p : ℕ) → a ≡ refusal n s p → JoinRefusal n s p

of-refusal : {m t q : ℕ} → JoinRefusal m t q → Refuses (refusal m t q)
of-refusal {m} {t} {q} h n s p e =
    let a : m ≡ n = cc in let b : t ≡ s = cc in let d : q ≡ p = cc in rw (a, b, d) at h

of-effect : (d : Doc) (out : List ℕ) → Refuses (join_effect d out)
unfolding join_effect fitted
of-effect d out = limited (within_limits d) (leb (length (written d)) (length out))
  where
    limited : (t u : Bool)
        → Refuses (pick t (pick u (writes (length (written d)) (written d)) (refusal 16 0 0)) (refusal 20 0 0))
    limited true true n s p e = let z : ◌≡◌ {A = ℕ} 0 1 = cc in absurd (omega arith)
    limited true false n s p e = of-refusal no_room n s p e
    limited false u n s p e = of-refusal past_limit n s p e

-- Every refusal of join_statements is one of the first sheet, 1 to 9, of the second, 1 to 9, 20 or 16
pub refusals : (first second out : List ℕ) → Refuses (join_statements first second out)
unfolding join_statements
refusals first second out =
    stated (statement_fault first) (statement-numbered first)
    (of_other (statement_fault second) (statement-numbered second))
  where
    next : Effect
    next = join_effect (joined (doc_of first) (doc_of second)) out

    of_other : (x : Option Fault) → NumberedFault 1 9 x → Refuses (unless_refused 2 x next)
    of_other None h = of-effect (joined (doc_of first) (doc_of second)) out
    of_other (Some u) h = let r = h u.number u.place refl in of-refusal (of_second u.number u.place r.0 r.1)

    stated : (x : Option Fault) → NumberedFault 1 9 x
        → Refuses (unless_refused 2 (statement_fault second) next)
        → Refuses (unless_refused 1 x (unless_refused 2 (statement_fault second) next))
    stated None h k = k
    stated (Some u) h k = let r = h u.number u.place refl in of-refusal (of_first u.number u.place r.0 r.1)

above_zero : {n s p : ℕ} → JoinRefusal n s p → 0 < n
above_zero (of_first n p a b) = a
above_zero (of_second n p a b) = a
above_zero past_limit = omega arith
above_zero no_room = omega arith

-- Every refusal of join_statements has a number above 0
pub join-numbered : (first second out : List ℕ) → Numbered (join_statements first second out)
join-numbered first second out n s p e = above_zero (refusals first second out n s p e)
