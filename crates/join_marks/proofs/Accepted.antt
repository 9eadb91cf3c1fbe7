-- Two statements without fault joined: the joined statement has none, and its tokens are those of the two, each where
-- it now stands.
use mathlib.Core.Path.{◌≡◌, refl, sym, ap, ◌∙◌, subst}
use mathlib.Core.Bool.{true}
use mathlib.Core.List.{List, [], ◌∷◌, ◌++◌, map}
use Prim.Native.Nat.{ℕ, zero, suc, ◌+◌, ◌-◌, ◌≤◌, ◌<◌}
use native.Mathlib.Omega.{arith}
use borrow.Author.Tests.{le-ltb, le-leb, eq-eqb, ne_eqb}
use lib.ListN.{length, get_or, drop, get_or-append, get_or-map}
use lib.Seq.{get_or-append-add}
use Rattle.lists.specs.Lists.{table, first, any_of, is_one}
use Rattle.lists.proofs.Tests.{both_true, true-both}
use Rattle.frame.specs.Limits.{max_tokens, max_names}
use Rattle.frame.specs.Doc.{Doc, Token, kind_of, value_of, name_of}
use Rattle.rules.specs.declared.Place.{Place}
use Rattle.rules.specs.declared.Place.TheVariants.{WholeStatement, Clause}
use Rattle.rules.specs.Rules.{takes, any, rules, most_of, valued, many, opens, arity}
use Rattle.rules.proofs.Rows.{many-add}
use Rattle.grammar.specs.Machine.{Want, want, opened, bounded, allowed, judged, run, left_over, grammar_fault}
use Rattle.grammar.specs.Inner.{from, and_then}
use Rattle.grammar.specs.Tree.{tree_of}
use Rattle.grammar.proofs.Laws.{from-append, opened-many}
use Rattle.grammar.proofs.Formed.{went_on, accepted, statement-only, statement-counts}
use Rattle.grammar.proofs.Flat.{tree-kind, tree-value, name_below}
use Rattle.moving.proofs.Trees.{Ends, ends-room, Same}
use Rattle.moving.proofs.Reading.{judged-passed, passed-judged, run_ends, run-allowed, many-awaits, Alike, from-moved, same-trees}
use Rattle.join.specs.Join.{numbered_after, joined}
use Rattle.join.proofs.Documents.{joined-tokens, joined-names}
use Rattle.std.specs.Prelude.{None, Result, Ok}
use Rattle.frame.specs.declared.Fault.{Fault}

-- ---- a statement without fault, read clause by clause
-- past the end of the tokens
abbrev pub no_token : Token
no_token = record { kind = 0; value = 0 }

-- so many clauses wait
abbrev pub clauses : ℕ → List Want
clauses v = opened 1 (many v Clause []) []

-- a document of a Statement token and as many clauses as it says
pub record Statement (d : Doc) : Type 0 where
  pub some : 0 < length d.tokens
  pub root : kind_of d 0 ≡ 90
  pub reads : from d 1 (clauses (value_of d 0)) ≡ Ok (length d.tokens)

-- a Statement opens as many clauses as its value says
statement-opens : (k v : ℕ) → k ≡ 90 → opens k v ≡ many v Clause []
unfolding opens rules first any_of table
statement-opens k v e = rw e

-- the place of a statement takes it
root-taken : (k : ℕ) → k ≡ 90 → is_one (takes WholeStatement) k ≡ true
unfolding takes any_of table
root-taken k e = rw e

-- its value may be any
root-most : (k : ℕ) → k ≡ 90 → most_of k ≡ any
unfolding most_of rules first any_of table
root-most k e = rw e

-- a run over all n tokens is that of a statement
statement-of : (d : Doc) (n : ℕ) → n ≡ length d.tokens → run d n (want WholeStatement 0 ∷ []) 0 ≡ Ok n
    → Statement d
unfolding run allowed from
statement-of d zero e h = absurd (let z : ◌≡◌ {A = ℕ} 0 1 = cc in omega arith)
statement-of d (suc n) e h =
    let r = went_on (judged d (want WholeStatement 0) 0) _ (suc n) h in
    let a = (judged-passed d (want WholeStatement 0) 0 r.0).0 in
    let k = statement-only (kind_of d 0) (both_true (is_one (takes WholeStatement) (kind_of d 0)) _ a).0 in
    let z : length d.tokens - 1 ≡ n = omega arith in
    record {
      some = omega arith;
      root = k;
      reads = rw (z, ← statement-opens (kind_of d 0) (value_of d 0) k, ← e) r.1;
    }

-- A document that the grammar of statements accepts is one
pub is-statement : (d : Doc) → grammar_fault WholeStatement d ≡ None → Statement d
is-statement d h = statement-of d (length d.tokens) refl (accepted d WholeStatement h)

-- and back
faultless : (d : Doc) (n : ℕ) → n ≡ length d.tokens → Statement d → judged d (want WholeStatement 0) 0 ≡ None
    → left_over n (run d n (want WholeStatement 0 ∷ []) 0) ≡ None
unfolding run from
faultless d zero e s j = absurd (omega (arith, s.some))
faultless d (suc n) e s j =
    let z : length d.tokens - 1 ≡ n = omega arith in
    let r : run d n (clauses (value_of d 0)) 1 ≡ Ok (suc n) =
    subst (λ (x : ℕ). run d x (clauses (value_of d 0)) 1 ≡ Ok (suc n)) z (s.reads ∙ ap Ok (sym e)) in
    rw (j, statement-opens (kind_of d 0) (value_of d 0) s.root, r, le-ltb (suc n) (suc n) (omega arith))

-- how many clauses wait
pub clauses-length : (v : ℕ) → length (clauses v) ≡ v
unfolding opened many
clauses-length zero = refl
clauses-length (suc v) = ap suc (clauses-length v)

-- so many of a place and so many more
pub clauses-add : (x y : ℕ) → clauses (x + y) ≡ clauses x ++ clauses y
clauses-add x y = rw (many-add x y Clause []) (opened-many 1 x Clause (many y Clause []))

module _ {d : Doc} (s : Statement d) where
  -- The clauses are whole trees, and hold all tokens but the first
  pub whole : Ends (tree_of d) (value_of d 0) 1 (length d.tokens)
  unfolding from
  whole =
      let e = run_ends d (length d.tokens - 1) (clauses (value_of d 0)) 1 (length d.tokens)
      (omega (arith, s.some)) s.reads in
      rw (clauses-length (value_of d 0)) at e

  -- each token of them fills a place
  pub filled : (i : ℕ) → 1 ≤ i → i < length d.tokens → (o : Place) × (allowed d o i ≡ true)
  unfolding from
  filled i p q =
      run-allowed d (length d.tokens - 1) (clauses (value_of d 0)) 1 (length d.tokens) i s.reads p q

  -- each Name among them is one of the document's names
  pub named : (i : ℕ) → 1 ≤ i → i < length d.tokens → kind_of d i ≡ 50 → value_of d i < length d.names
  named i p q = let r = filled i p q in name_below d r.0 i r.1

  -- the value of the first token is the number of clauses, in the tree too
  pub root-value : (tree_of d).value 0 ≡ value_of d 0
  root-value = tree-value d 0 (λ e. omega (arith, s.root))

  -- as many trees as clauses stand below the first token
  pub root-arity : arity ((tree_of d).kind 0) ((tree_of d).value 0) ≡ value_of d 0
  root-arity =
      ap (λ (v : ℕ). arity ((tree_of d).kind 0) v) root-value
      ∙ ap (λ (k : ℕ). arity k (value_of d 0)) (tree-kind d 0 ∙ s.root)
      ∙ statement-counts (value_of d 0)

-- a Statement of any number of clauses
root-allowed : (d : Doc) → kind_of d 0 ≡ 90 → value_of d 0 ≤ any → allowed d WholeStatement 0 ≡ true
unfolding allowed bounded
root-allowed d k v =
    let x : is_one (takes WholeStatement) (kind_of d 0) ≡ true = root-taken (kind_of d 0) k in
    let m : most_of (kind_of d 0) ≡ any = root-most (kind_of d 0) k in
    let y : valued (kind_of d 0) (value_of d 0) ≡ true = le-leb (value_of d 0) (most_of (kind_of d 0)) (omega arith) in
    true-both x (true-both y refl)

-- ---- the joined tokens and names
-- token j of the first, behind another first token
left_at : (r : Token) (as' bs : List Token) (j : ℕ) → 1 ≤ j → j < length as'
    → get_or (r ∷ (drop 1 as' ++ bs)) j no_token ≡ get_or as' j no_token
left_at r [] bs j p q = absurd (omega arith)
left_at r (x ∷ as') bs zero p q = absurd (omega arith)
left_at r (x ∷ as') bs (suc j) p q = get_or-append as' bs no_token j (omega arith)

-- token i of the second
right-at : (r : Token) (m : ℕ) (as' bs : List Token) (i j : ℕ) → length as' + i ≡ 1 + j → 0 < length as' → 1 ≤ i
    → i < length bs
    → get_or (r ∷ (drop 1 as' ++ map (numbered_after m) (drop 1 bs))) j no_token ≡ numbered_after m (get_or bs i no_token)
right-at r m [] bs i j e o p q = absurd (omega arith)
right-at r m (x ∷ as') [] i j e o p q = absurd (omega arith)
right-at r m (x ∷ as') (y ∷ bs) zero j e o p q = absurd (omega arith)
right-at r m (x ∷ as') (y ∷ bs) (suc i) j e o p q =
    let z : j ≡ suc (length as' + i) = omega arith in
    rw z (get_or-append-add as' (map (numbered_after m) bs) i no_token ∙ get_or-map (numbered_after m) bs i no_token)

module _ (a b : Doc) where
  -- a token of the first stands where it stood
  token-left : (i j : ℕ) → 1 + i ≡ 1 + j → 1 ≤ i → i < length a.tokens
      → get_or (joined a b).tokens j no_token ≡ get_or a.tokens i no_token
  unfolding joined
  token-left i j e p q = let z : j ≡ i = omega arith in rw z (left_at _ a.tokens _ i p q)

  -- a token of the second is numbered after the names of the first
  token-right : (i j : ℕ) → length a.tokens + i ≡ 1 + j → 0 < length a.tokens → 1 ≤ i → i < length b.tokens
      → get_or (joined a b).tokens j no_token ≡ numbered_after (length a.names) (get_or b.tokens i no_token)
  unfolding joined
  token-right i j e o p q = right-at _ (length a.names) a.tokens b.tokens i j e o p q

  -- the names of the first keep their numbers
  pub name-left : (k : ℕ) → k < length a.names → name_of (joined a b) k ≡ name_of a k
  unfolding joined
  name-left k h = get_or-append a.names b.names [] k h

  -- the names of the second follow
  pub name-right : (k : ℕ) → name_of (joined a b) (length a.names + k) ≡ name_of b k
  unfolding joined
  name-right k = get_or-append-add a.names b.names k []

  -- the first token is a Statement of the clauses of both
  pub root_is : (kind_of (joined a b) 0 ≡ 90) × (value_of (joined a b) 0 ≡ value_of a 0 + value_of b 0)
  unfolding joined
  root_is = (refl, refl)

-- the kind of a token
abbrev kind-of : Token → ℕ
kind-of t = t.kind

-- the value of a token
abbrev value-of : Token → ℕ
value-of t = t.value

module _ (a b : Doc) (sa : Statement a) (sb : Statement b) (few_names : length (joined a b).names ≤ max_names) where
  -- The tokens of the first stand where they stood
  pub left-alike : Alike a (joined a b) 1 (length a.tokens) 1
  left-alike = record {
    kind = λ i j e p q. ap kind-of (token-left a b i j e p q);
    value = λ i j e p q h. ap value-of (token-left a b i j e p q);
    name = λ i j e p q h k. let v = ap value-of (token-left a b i j e p q) in omega (arith, v, joined-names a b);
    text = λ i j e p q h k. ap (name_of (joined a b)) (ap value-of (token-left a b i j e p q))
        ∙ name-left a b (value_of a i) k;
    inside = omega (arith, joined-tokens a b sa.some sb.some, sb.some);
    few_names = omega (arith, few_names);
  }

  -- the number of a Name of the second
  renumbered : (i j : ℕ) → length a.tokens + i ≡ 1 + j → 1 ≤ i → i < length b.tokens → kind_of b i ≡ 50
      → value_of (joined a b) j ≡ length a.names + value_of b i
  renumbered i j e p q h = ap value-of (token-right a b i j e sa.some p q) ∙ rw (eq-eqb (kind_of b i) 50 h)

  -- Those of the second stand from the first's end on, with Names numbered after the first's
  pub right-alike : Alike b (joined a b) 1 (length b.tokens) (length a.tokens)
  right-alike = record {
    kind = λ i j e p q. ap kind-of (token-right a b i j e sa.some p q);
    value = λ i j e p q h. ap value-of (token-right a b i j e sa.some p q) ∙ rw (ne_eqb (kind_of b i) 50 h);
    name = λ i j e p q h k. omega (arith, renumbered i j e p q h, joined-names a b);
    text = λ i j e p q h k. ap (name_of (joined a b)) (renumbered i j e p q h) ∙ name-right a b (value_of b i);
    inside = omega (arith, joined-tokens a b sa.some sb.some);
    few_names = omega (arith, few_names);
  }

  -- The first's trees stand in the joined document's, where they stood
  pub left-same : Same (tree_of a) (tree_of (joined a b)) 1 (length a.tokens) 1
  left-same = same-trees left-alike (named sa)

  -- The second's trees stand in the joined document's, from the first's end on
  pub right-same : Same (tree_of b) (tree_of (joined a b)) 1 (length b.tokens) (length a.tokens)
  right-same = same-trees right-alike (named sb)

  -- the first's clauses are read
  left-read : from (joined a b) 1 (clauses (value_of a 0)) ≡ Ok (length a.tokens)
  left-read =
      from-moved left-alike (clauses (value_of a 0)) 1 1 (length a.tokens) (length a.tokens) (omega arith)
      (omega arith) (omega arith) (omega (arith, sa.some)) (omega arith) (many-awaits _ 1 (value_of a 0) Clause refl)
      sa.reads

  -- and then the second's
  right-read : from (joined a b) (length a.tokens) (clauses (value_of b 0)) ≡ Ok (length (joined a b).tokens)
  right-read =
      from-moved right-alike (clauses (value_of b 0)) 1 (length a.tokens) (length b.tokens)
      (length (joined a b).tokens) (omega arith) (omega (arith, joined-tokens a b sa.some sb.some))
      (omega arith) (omega (arith, sb.some)) (omega arith) (many-awaits _ 1 (value_of b 0) Clause refl) sb.reads

  -- The joined document is a statement of the clauses of both
  pub joined-statement : Statement (joined a b)
  joined-statement =
      let va = value_of a 0 in
      let vb = value_of b 0 in
      record {
        some = omega (arith, joined-tokens a b sa.some sb.some, sa.some, sb.some);
        root = (root_is a b).0;
        reads = ap (λ (v : ℕ). from (joined a b) 1 (clauses v)) (root_is a b).1
            ∙ ap (from (joined a b) 1) (clauses-add va vb)
            ∙ from-append (joined a b) 1 (clauses va) (clauses vb)
            ∙ ap (λ (r : Result ℕ Fault). and_then (joined a b) r (clauses vb)) left-read
            ∙ right-read;
      }

  -- the Statement of as many clauses is allowed
  root-judged : length (joined a b).tokens ≤ max_tokens → judged (joined a b) (want WholeStatement 0) 0 ≡ None
  root-judged few =
      passed-judged (joined a b) (want WholeStatement 0) 0
      (root-allowed (joined a b) (root_is a b).0
      (omega (
        arith,
        (root_is a b).1,
        ends-room (whole sa),
        ends-room (whole sb),
        joined-tokens a b sa.some sb.some,
        few,
      )))
      refl

  -- so the grammar finds no fault
  fault-free : length (joined a b).tokens ≤ max_tokens → grammar_fault WholeStatement (joined a b) ≡ None
  unfolding grammar_fault
  fault-free few = faultless (joined a b) (length (joined a b).tokens) refl joined-statement (root-judged few)

-- The joined statement has no fault of grammar
pub joined-accepted : (a b : Doc) → grammar_fault WholeStatement a ≡ None → grammar_fault WholeStatement b ≡ None
    → length (joined a b).tokens ≤ max_tokens → length (joined a b).names ≤ max_names
    → grammar_fault WholeStatement (joined a b) ≡ None
joined-accepted a b pa pb few few_names = fault-free a b (is-statement a pa) (is-statement b pb) few_names few
