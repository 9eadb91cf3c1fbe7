-- What the grammar says of a document that it accepts: all tokens stand below the first, each child is there, and has
-- a kind and value that its place takes.
use mathlib.Core.Bool.{Bool, true, false}
use mathlib.Core.Logic.{⊎_elim}
use mathlib.Core.Path.{◌≡◌, refl, sym, ap, ◌∙◌, subst}
use mathlib.Core.List.{List, [], ◌∷◌}
use Prim.Native.Nat.{ℕ, zero, suc, ◌+◌, ◌-◌, ◌≤◌, ◌<◌}
use native.Mathlib.Nat.{zero-add, suc-add, add-zero}
use native.Mathlib.Omega.{arith}
use borrow.Author.Tests.{eqb-true, ltb-false}
use lib.ListN.{length, get_or, get_or-eq_default}
use lib.Dec.{eqb, leb, ltb}
use Rattle.lists.specs.Lists.{pick, table, first, any_of, is_one}
use Rattle.lists.proofs.Tests.{below, both_true}
use Rattle.frame.specs.Doc.{Doc, Token, kind_of, value_of}
use Rattle.frame.specs.declared.Fault.{Fault}
use Rattle.frame.proofs.Laws.{no_fault}
use Rattle.rules.specs.declared.Place.{Place}
use Rattle.rules.specs.declared.Place.TheVariants.{WholeStatement, WholeSchema, Clause, Declaration, Expr}
use Rattle.rules.specs.Rules.{takes, rules, opens, arity}
use Rattle.grammar.specs.Machine.{Want, want, opened, allowed, judged, after, run, left_over, grammar_fault}
use Rattle.grammar.specs.Inner.{Inside}
use Rattle.grammar.specs.Tree.{Tree, tree_of, pass, past, child}
use Rattle.rules.proofs.Rows.{taken-by, many-length}
use Rattle.grammar.proofs.Laws.{run_inside}
use Rattle.grammar.proofs.Places.{past-none, past-node}
use Rattle.std.specs.Prelude.{Option, Some, None, Result, Ok, Err}
use Rattle.frame.specs.Sheet.{fault}

-- ---- how many places wait
pub opened-length : (d : ℕ) (ps : List Place) (ws : List Want) → length (opened d ps ws) ≡ length ps + length ws
unfolding opened
opened-length d [] ws = sym (zero-add (length ws))
opened-length d (p ∷ ps) ws = rw (opened-length d ps ws, suc-add)

-- a want past the end of a list
abbrev no_want : Want
no_want = want Expr 0

opened-left : (d c : ℕ) (ps : List Place) (ws : List Want) → c < length ps → (get_or (opened d ps ws) c no_want).place
    ≡ get_or ps c Expr
unfolding opened
opened-left d c [] ws h = absurd (omega arith)
opened-left d zero (p ∷ ps) ws h = refl
opened-left d (suc c) (p ∷ ps) ws h = opened-left d c ps ws (omega arith)

opened-right : (d c : ℕ) (ps : List Place) (ws : List Want) → get_or (opened d ps ws) (length ps + c) no_want ≡ get_or ws c
    no_want
unfolding opened
opened-right d c [] ws = rw zero-add
opened-right d c (p ∷ ps) ws = rw suc-add (opened-right d c ps ws)

-- ---- a run that refuses nothing
pub went_on : (q : Option Fault) (r : Result ℕ Fault) (k : ℕ) → after q r ≡ Ok k → (q ≡ None) × (r ≡ Ok k)
went_on None r k h = (refl, h)
went_on (Some u) r k h = absurd (let z : ◌≡◌ {A = ℕ} 0 1 = cc in omega arith)

allowed_of : (a b : Bool) (i : ℕ) → pick a (pick b None (Some (fault 7 i))) (Some (fault 6 i)) ≡ None → a ≡ true
allowed_of true b i h = refl
allowed_of false b i h = no_fault h

nothing_left : (n : ℕ) (r : Result ℕ Fault) → Inside 0 n r → left_over n r ≡ None → r ≡ Ok n
nothing_left n (Ok k) i h = go (ltb k n) refl h
  where
    go : (b : Bool) → ltb k n ≡ b → pick b (Some (fault 9 k)) None ≡ None → ◌≡◌ {A = Result ℕ Fault} (Ok k) (Ok n)
    go true e g = no_fault g
    go false e g = let l : n ≤ k = ltb-false k n e in ap Ok (omega arith)
nothing_left n (Err k) i h = no_fault h

-- a Name has no children, whatever its value
fifty : (k v : ℕ) → k ≡ 50 → length (opens k 0) ≡ length (opens k v)
unfolding opens rules first any_of table
fifty k v e = rw e

module _ (d : Doc) where
  pub arity-at : (i : ℕ) → arity ((tree_of d).kind i) ((tree_of d).value i) ≡ length (opens (kind_of d i) (value_of d i))
  unfolding tree_of arity
  arity-at i = go (eqb (kind_of d i) 50) refl
    where
      go : (b : Bool) → eqb (kind_of d i) 50 ≡ b → length (opens (kind_of d i) (pick b 0 (value_of d i))) ≡ length
          (opens (kind_of d i) (value_of d i))
      go true e = fifty (kind_of d i) (value_of d i) (eqb-true _ _ e)
      go false e = refl

  -- the trees from i on fill the places that wait
  abbrev Filled : List Want → ℕ → Type 0
  Filled ws i = (c : ℕ) → c < length ws → allowed d (get_or ws c no_want).place (past (tree_of d) c i) ≡ true

  -- the children of token j fill the places that it opens
  abbrev pub Formed : ℕ → Type 0
  Formed j = (c : ℕ) → c < length (opens (kind_of d j) (value_of d j))
      → allowed d (get_or (opens (kind_of d j) (value_of d j)) c Expr) (child (tree_of d) j c) ≡ true

  inside : (i left : ℕ) → i + suc left ≡ length d.tokens → i < (tree_of d).size
  unfolding tree_of
  inside i left e = omega arith

  module _ (w : Want) (ws : List Want) (i : ℕ) (h : i < (tree_of d).size) (a : allowed d w.place i ≡ true)
      (g : Filled (opened (w.depth + 1) (opens (kind_of d i) (value_of d i)) ws) (suc i)) where
    next-filled : Filled (w ∷ ws) i
    next-filled zero b = rw (past-none (tree_of d) i) a
    next-filled (suc c) b =
        let n = opened-length (w.depth + 1) (opens (kind_of d i) (value_of d i)) ws in
        let k = g (length (opens (kind_of d i) (value_of d i)) + c) (omega (arith, n)) in
        let q : length (opens (kind_of d i) (value_of d i)) + c ≡ c + arity ((tree_of d).kind i) ((tree_of d).value i) =
        omega (arith, arity-at i) in
        let m : past (tree_of d) (suc c) i ≡ past (tree_of d) (length (opens (kind_of d i) (value_of d i)) + c) (suc i) =
        past-node (tree_of d) c i h ∙ ap (λ (z : ℕ). past (tree_of d) z (suc i)) (sym q) in
        rw m (subst (λ (z : Want). allowed d z.place
        (past (tree_of d) (length (opens (kind_of d i) (value_of d i)) + c) (suc i)) ≡ true)
        (opened-right (w.depth + 1) c (opens (kind_of d i) (value_of d i)) ws) k)

    next-formed : Formed i
    next-formed c b =
        let n = opened-length (w.depth + 1) (opens (kind_of d i) (value_of d i)) ws in
        subst (λ (z : Place). allowed d z (past (tree_of d) c (suc i)) ≡ true)
        (opened-left (w.depth + 1) c (opens (kind_of d i) (value_of d i)) ws b) (g c (omega (arith, n)))

  -- a run that ends at k: the trees fill the places, and each token before k is formed
  run-formed : (left : ℕ) (ws : List Want) (i k : ℕ) → i + left ≡ length d.tokens → run d left ws i ≡ Ok k
      → Filled ws i × ((j : ℕ) → i ≤ j → j < k → Formed j)
  unfolding run judged
  run-formed zero [] i k e h = ((λ c b. absurd (omega arith)), λ j p q. absurd (let z : i ≡ k = cc in omega arith))
  run-formed zero (w ∷ ws) i k e h = absurd (let z : ◌≡◌ {A = ℕ} 0 1 = cc in omega arith)
  run-formed (suc left) [] i k e h = (
    (λ c b. absurd (omega arith)),
    λ j p q. absurd
        (let z : i ≡ k = cc in omega arith),
  )
  run-formed (suc left) (w ∷ ws) i k e h =
      let r = went_on (judged d w i) _ k h in
      let a = allowed_of (allowed d w.place i) (leb w.depth 64) i r.0 in
      let g = run-formed left (opened (w.depth + 1) (opens (kind_of d i) (value_of d i)) ws) (suc i) k (omega arith)
      r.1 in (
        next-filled w ws i (inside i left e) a g.0,
        λ j p q. ⊎_elim (λ l. g.1 j l q) (λ l. let z : i ≡ j = omega arith in subst (λ (m : ℕ). Formed m) z
            (next-formed w ws i (inside i left e) a g.0)) (below i j),
      )

  -- it ends where as many trees end as places waited
  run-passes : (left : ℕ) (ws : List Want) (i k : ℕ) → run d left ws i ≡ Ok k
      → pass (λ j. arity ((tree_of d).kind j) ((tree_of d).value j)) left (length ws) i ≡ k
  unfolding run pass
  run-passes zero [] i k h = cc
  run-passes zero (w ∷ ws) i k h = absurd (let z : ◌≡◌ {A = ℕ} 0 1 = cc in omega arith)
  run-passes (suc left) [] i k h = cc
  run-passes (suc left) (w ∷ ws) i k h =
      let r = went_on (judged d w i) _ k h in
      let g = run-passes left (opened (w.depth + 1) (opens (kind_of d i) (value_of d i)) ws) (suc i) k r.1 in
      let n : length (opened (w.depth + 1) (opens (kind_of d i) (value_of d i)) ws) ≡ length ws + arity
      ((tree_of d).kind i) ((tree_of d).value i) =
      omega (arith, opened-length (w.depth + 1) (opens (kind_of d i) (value_of d i)) ws, arity-at i) in
      subst (λ (z : ℕ). pass (λ j. arity ((tree_of d).kind j) ((tree_of d).value j)) left z (suc i) ≡ k) n g

  module _ (p : Place) (h : grammar_fault p d ≡ None) where
    pub accepted : run d (length d.tokens) (want p 0 ∷ []) 0 ≡ Ok (length d.tokens)
    unfolding grammar_fault
    accepted =
        let i = run_inside d (length d.tokens) 0 (want p 0 ∷ []) in
        nothing_left (length d.tokens) (run d (length d.tokens) (want p 0 ∷ []) 0)
        (subst (λ (n : ℕ). Inside 0 n (run d (length d.tokens) (want p 0 ∷ []) 0))
        (zero-add (length d.tokens)) i) h

    -- every token of an accepted document is formed
    pub formed : (j : ℕ) → j < length d.tokens → Formed j
    formed j b = (run-formed (length d.tokens) (want p 0 ∷ []) 0 (length d.tokens)
        (zero-add (length d.tokens)) accepted).1 j (omega arith) b

    -- the first token fills the place, and all tokens stand in its tree
    pub first-allowed : 0 < length d.tokens → allowed d p 0 ≡ true
    first-allowed b =
        let f = (run-formed (length d.tokens) (want p 0 ∷ []) 0 (length d.tokens) (zero-add (length d.tokens))
        accepted).0 in
        subst (λ (i : ℕ). allowed d p i ≡ true) (past-none (tree_of d) 0) (f 0 (omega arith))

    pub first-covers : past (tree_of d) 1 0 ≡ (tree_of d).size
    unfolding tree_of past
    first-covers =
        let z : length d.tokens - 0 ≡ length d.tokens = omega arith in
        rw z (run-passes (length d.tokens) (want p 0 ∷ []) 0 (length d.tokens) accepted)

-- ---- the root of a statement and of a schema
-- token 0 is of kind k, its value is the number of its children, which hold all other tokens; past the end no token
-- has a kind
pub record Rooted (k : ℕ) (t : Tree) : Type 0 where
  pub some : 0 < t.size
  pub root : t.kind 0 ≡ k
  pub covers : past t (t.value 0) 1 ≡ t.size
  pub outside : (i : ℕ) → t.size ≤ i → t.kind i ≡ 0

module _ (d : Doc) (some : 0 < length d.tokens) (p : Place) (k : ℕ) (counts : (v : ℕ) → arity k v ≡ v)
    (only : (j : ℕ) → is_one (takes p) j ≡ true → j ≡ k) (h : grammar_fault p d ≡ None) where
  rooted : Rooted k (tree_of d)
  unfolding tree_of allowed
  rooted =
      let r = only (kind_of d 0) (both_true _ _ (first-allowed d p h some)).0 in
      let e : 0 + arity ((tree_of d).kind 0) ((tree_of d).value 0) ≡ (tree_of d).value 0 =
      zero-add (arity ((tree_of d).kind 0) ((tree_of d).value 0)) ∙ ap (λ (j : ℕ). arity j ((tree_of d).value 0)) r ∙ counts
      ((tree_of d).value 0) in
      record {
        some = some;
        root = r;
        covers = subst (λ (z : ℕ). past (tree_of d) z 1 ≡ (tree_of d).size) e
            (sym (past-node (tree_of d) 0 0 some) ∙ first-covers d p h);
        outside = λ i b. ap (λ (z : Token). z.kind) (get_or-eq_default d.tokens
            (record { kind = 0; value = 0 }) b);
      }

pub statement-counts : (v : ℕ) → arity 90 v ≡ v
unfolding arity opens rules first any_of table
statement-counts v = many-length v Clause [] ∙ add-zero v

pub schema-counts : (v : ℕ) → arity 100 v ≡ v
unfolding arity opens rules first any_of table
schema-counts v = many-length v Declaration [] ∙ add-zero v

pub statement-only : (j : ℕ) → is_one (takes WholeStatement) j ≡ true → j ≡ 90
unfolding takes table
statement-only j h = taken-by (λ (k : ℕ). k ≡ 90) (90 ∷ []) j h (refl, tt)

schema-only : (j : ℕ) → is_one (takes WholeSchema) j ≡ true → j ≡ 100
unfolding takes table
schema-only j h = taken-by (λ (k : ℕ). k ≡ 100) (100 ∷ []) j h (refl, tt)

-- an accepted statement, and an accepted schema
pub statement-rooted : (d : Doc) → 0 < length d.tokens → grammar_fault WholeStatement d ≡ None → Rooted 90
    (tree_of d)
statement-rooted d b h = rooted d b WholeStatement 90 statement-counts statement-only h

pub schema-rooted : (d : Doc) → 0 < length d.tokens → grammar_fault WholeSchema d ≡ None → Rooted 100 (tree_of d)
schema-rooted d b h = rooted d b WholeSchema 100 schema-counts schema-only h
