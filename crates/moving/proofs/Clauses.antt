-- Clauses of a statement that are clauses of another one: their tokens have the same breaches there, which say the
-- same.
use mathlib.Core.Path.{◌≡◌, sym, ap, ◌∙◌, subst}
use Prim.Native.Nat.{ℕ, ◌+◌, ◌-◌, ◌≤◌, ◌<◌}
use native.Mathlib.Omega.{arith}
use Rattle.rules.specs.Kinds as Kind
use Rattle.rules.specs.Rules.{arity}
use Rattle.grammar.specs.Tree.{Tree, past, end, child, parent}
use Rattle.grammar.proofs.Places.{past-add, past-ge, past-le, parent-child, locate}
use Rattle.grammar.proofs.Formed.{statement-counts}
use Rattle.provider.specs.Schema.{Schema}
use Rattle.breach.specs.Breach.{Item, clause_of, Breach}
use Rattle.breach.proofs.Whole.{StandsIn, stands-clause, breach-owner, breach-clause}
use Rattle.message.specs.Message.{message_of}
use Rattle.moving.specs.Moved.{placed, moved_on}
use Rattle.moving.proofs.Trees.{Ends, ends-past, ends-room, ends-inside, ends-split, ends-tree, Same, narrower}
use Rattle.moving.proofs.Trees.{ends-moved, past-moved, end_moved}
use Rattle.moving.proofs.Facts.{Carried}
use Rattle.moving.proofs.Breaches.{breach-placed, message-same, breach-moved}

-- m clauses of the one statement from clause e on, the tokens from lo up to hi, are m clauses of the other, from
-- clause f and token `at` on
pub record Holds (t u : Tree) (m e lo hi f at : ℕ) : Type 0 where
  pub whole : Ends t m lo hi
  pub same : Same t u lo hi at
  pub begins : past t e 1 ≡ lo
  pub begins' : past u f 1 ≡ at
  pub among : e + m ≤ arity (t.kind 0) (t.value 0)
  pub among' : f + m ≤ arity (u.kind 0) (u.value 0)
  -- the first has a token, and both begin with a Statement
  pub some : 0 < t.size
  pub root : t.kind 0 ≡ Kind.Statement
  pub roots : u.kind 0 ≡ t.kind 0

module _ {t u : Tree} {m e lo hi f at : ℕ} (k : Holds t u m e lo hi f at) where
  -- ---- both statements have these clauses
  -- where they begin and end is in the first
  begins-inside : lo ≤ t.size
  begins-inside = omega (arith, past-le t e 1 k.some, k.begins)

  ends_there : hi ≤ t.size
  ends_there = ends-inside k.whole begins-inside

  -- the second has a token
  some' : 0 < u.size
  some' = omega (arith, past-ge u f 1, k.begins', k.same.inside, ends-room k.whole)

  -- the Statements count them
  counted : e + m ≤ t.value 0
  counted =
      let n : arity (t.kind 0) (t.value 0) ≡ t.value 0 = rw k.root (statement-counts (t.value 0)) in
      omega (arith, k.among)

  counted' : f + m ≤ u.value 0
  counted' =
      let n : arity (u.kind 0) (u.value 0) ≡ u.value 0 = rw (k.roots, k.root) (statement-counts (u.value 0)) in
      omega (arith, k.among')

  -- ---- the other way round
  -- their tokens, from the second to the first
  same_back : (hi' : ℕ) → at + hi ≡ lo + hi' → Same u t at hi' lo
  same_back hi' h = record {
    kind = λ i j d a b. sym (k.same.kind j i (omega arith) (omega arith) (omega arith));
    value = λ i j d a b. sym (k.same.value j i (omega arith) (omega arith) (omega arith));
    text = λ i j d a b. sym (k.same.text j i (omega arith) (omega arith) (omega arith));
    inside = omega (arith, ends_there);
  }

  -- The clauses of the other are clauses of the one
  pub holds-back : (hi' : ℕ) → at + hi ≡ lo + hi' → Holds u t m f at hi' e lo
  holds-back hi' h = record {
    whole = ends-moved k.same k.whole at hi' (omega arith) h (omega arith) (omega arith);
    same = same_back hi' h;
    begins = k.begins';
    begins' = k.begins;
    among = k.among';
    among' = k.among;
    some = some';
    root = k.roots ∙ k.root;
    roots = sym k.roots;
  }

  -- ---- clause c of these, from 0: where it stands in each
  -- where it begins
  child-is : (c : ℕ) → child t 0 (e + c) ≡ past t c lo
  child-is c = past-add t e c 1 ∙ ap (past t c) k.begins

  child-is' : (c : ℕ) → child u 0 (f + c) ≡ past u c at
  child-is' c = past-add u f c 1 ∙ ap (past u c) k.begins'

  -- that is among the tokens
  clause-in : (c : ℕ) → c < m → (lo ≤ past t c lo) × (past t c lo < hi)
  clause-in c h =
      let r = ends-split k.whole c (m - c) (omega arith) in
      (omega (arith, ends-room r.0), omega (arith, ends-room r.1))

  -- and corresponds
  clause-at : (c : ℕ) → c < m → at + past t c lo ≡ lo + past u c at
  clause-at c h = sym (past-moved k.whole k.same c (omega arith))

  -- it is carried
  carried : (c : ℕ) → c < m → Carried t u (past t c lo) (past u c at)
  carried c h =
      let r = clause-in c h in
      let o = clause-at c h in
      let x = ends-tree k.whole (past t c lo) r.0 r.1 in
      let z : child t 0 (e + c) < t.size = omega (arith, child-is c, r.1, ends_there) in
      let y : child u 0 (f + c) < u.size = omega (arith, child-is' c, r.1, k.same.inside) in
      record {
        whole = x.0;
        same = narrower (past t c lo) (end t (past t c lo)) (past u c at) k.same r.0 x.1 o;
        top = subst (λ (p : ℕ). parent t p ≡ 0) (child-is c)
            (parent-child t 0 (e + c) k.some (omega (arith, k.among)) z);
        top' = subst (λ (p : ℕ). parent u p ≡ 0) (child-is' c)
            (parent-child u 0 (f + c) some' (omega (arith, k.among')) y);
        roots = k.roots;
      }

  -- ---- token i of the one, j of the other
  module _ (i j : ℕ) (d : at + i ≡ lo + j) (p : lo ≤ i) (q : i < hi) where
    -- the clause that the token stands in
    located : (c : ℕ) × (c < m) × (past t c lo ≤ i) × (i < end t (past t c lo))
    located = locate t m lo i p (rw (ends-past k.whole) q)

    -- the token stands in it, in each
    stands : (c : ℕ) → c < m → past t c lo ≤ i → i < end t (past t c lo) → StandsIn t i (e + c)
    stands c h a b = (omega (arith, counted), rw (child-is c) a, rw (child-is c) b)

    stands' : (c : ℕ) → c < m → past t c lo ≤ i → i < end t (past t c lo) → StandsIn u j (f + c)
    stands' c h a b =
        let r = clause-in c h in
        let o = clause-at c h in
        let x = end_moved k.whole k.same (past t c lo) (past u c at) o r.0 r.1 in
        (omega (arith, counted'), rw (child-is' c) (omega arith), rw (child-is' c) (omega arith))

    -- The clause numbers differ as the numbers of the first clauses do
    pub holds-clause : f + clause_of t i ≡ e + clause_of u j
    holds-clause =
        let l = located in
        let x = stands-clause t i (e + l.0) (stands l.0 l.1 l.2 l.3) in
        let y = stands-clause u j (f + l.0) (stands' l.0 l.1 l.2 l.3) in
        omega (arith, x, y)

  module _ (s : Schema) (i j : ℕ) (d : at + i ≡ lo + j) (p : lo ≤ i) (q : i < hi) where
    -- A token of these clauses has the same breaches in the other statement, with its place there as their owner
    pub holds-breach : {x : Item} → Breach t s i x → Breach u s j (placed j (clause_of u j) x)
    holds-breach b =
        let l = located i j d p q in
        let o = clause-at l.0 l.1 in
        breach-moved (carried l.0 l.1) s i j (omega arith) l.2 l.3 b

    -- The message of such a breach is the same bytes, whatever clause number is written into its item
    pub holds_text : (n : ℕ) {x : Item} → Breach t s i x → message_of u s (placed j n x) ≡ message_of t s x
    holds_text = message-same k.whole k.same i j d p q s

-- A breach of the token in the other statement is one of the token in the first, with its place there as its owner
pub holds-both : {t u : Tree} {m e lo hi f at : ℕ} → Holds t u m e lo hi f at → (s : Schema) (i j : ℕ) → at + i ≡ lo + j
    → lo ≤ i → i < hi → {x : Item} → Breach u s j x
    → Breach t s i (placed i (clause_of t i) x) × (x ≡ placed j (clause_of u j) (placed i (clause_of t i) x))
holds-both {t} {u} {lo = lo} {hi = hi} {at = at} k s i j d p q {x} b =
    let r = ends-room k.whole in
    let h : at + hi ≡ lo + (at + hi - lo) = omega arith in (
      holds-breach (holds-back k (at + hi - lo) h) s j i (omega arith) (omega arith) (omega arith) b,
      breach-placed u s j x b,
    )

-- ---- n tokens further on, and c clauses further on
module _ {t u : Tree} {m e lo hi f at : ℕ} (k : Holds t u m e lo hi f at) (n c : ℕ) (o : at ≡ lo + n)
    (g : f ≡ e + c) (s : Schema) (i : ℕ) (p : lo ≤ i) (q : i < hi) where
  -- the clause of the token there
  clause-on : clause_of u (n + i) ≡ c + clause_of t i
  clause-on = omega (arith, holds-clause k i (n + i) (omega arith) p q)

  -- Clauses that stand further on in another statement have the same breaches, moved: each breach of a token is one of
  -- that token there, with its owner and its clause moved on
  pub further-on : {x : Item} → Breach t s i x → Breach u s (n + i) (moved_on n c x)
  further-on {x} b =
      let y : Breach u s (n + i) (placed (n + i) (clause_of u (n + i)) x) =
      holds-breach k s i (n + i) (omega arith) p q b in
      let w : x.owner ≡ i = breach-owner t s i b in
      let z : x.clause ≡ clause_of t i = breach-clause t s i b ∙ ap (clause_of t) w in
      rw (w, z, ← clause-on) y

  -- and no others: each breach of a token there is one of the token here, with its owner and its clause moved on
  pub from-further-on : {y : Item} → Breach u s (n + i) y → (x : Item) × Breach t s i x × (y ≡ moved_on n c x)
  from-further-on {y} b =
      let r = holds-both k s i (n + i) (omega arith) p q b in
      (placed i (clause_of t i) y, r.0, rw (← clause-on) r.1)
