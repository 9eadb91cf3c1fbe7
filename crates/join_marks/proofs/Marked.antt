-- The list of a joined document is the first's, then the second's, moved on; and its messages are theirs.
use mathlib.Core.Path.{◌≡◌, refl, sym, ap, ◌∙◌, subst}
use mathlib.Core.Logic.{⊎_elim, inl}
use mathlib.Core.List.Memᴰ
use mathlib.Core.List.{List, ◌++◌, map, Memᴰ}
use Prim.Native.Nat.{ℕ, ◌+◌, ◌-◌, ◌≤◌, ◌<◌}
use native.Mathlib.Omega.{arith}
use lib.ListN.{length}
use Rattle.lists.proofs.Tests.{below}
use Rattle.lists.proofs.Joins.{map-mem, mem-map}
use Rattle.frame.specs.Limits.{max_tokens, max_names}
use Rattle.frame.specs.Doc.{Doc, value_of}
use Rattle.rules.specs.declared.Place.TheVariants.{WholeStatement}
use Rattle.grammar.specs.Machine.{grammar_fault}
use Rattle.grammar.specs.Tree.{Tree, tree_of, child}
use Rattle.grammar.proofs.Places.{past-none, past-ge, past-le}
use Rattle.grammar.proofs.Formed.{Rooted, statement-rooted}
use Rattle.grammar.proofs.Flat.{tree-kind}
use Rattle.provider.specs.Schema.{Schema}
use Rattle.breach.specs.Breach.{Item, clause_of, Breach}
use Rattle.breach.specs.Listing.{listed}
use Rattle.breach.specs.Order.{whole_key, Precedes, AllBreaches}
use Rattle.breach.proofs.Ascending.{asc-append}
use Rattle.breach.proofs.Whole.{breach-owner, list-exact, owner-stands, all-breaches}
use Rattle.breach.proofs.Only.{only-list}
use Rattle.message.specs.Message.{message_of}
use Rattle.moving.specs.Moved.{placed, moved_on}
use Rattle.moving.proofs.Trees.{ends-past, past-moved}
use Rattle.moving.proofs.Breaches.{breach-placed}
use Rattle.moving.proofs.Clauses.{Holds, holds-breach, holds_text, holds-clause, holds-both, further-on, from-further-on}
use Rattle.join.specs.Join.{joined}
use Rattle.join.proofs.Documents.{joined-tokens}
use Rattle.join_marks.proofs.Accepted.{Statement, is-statement, whole, root-value, root-arity, root_is, left-same, right-same, joined-statement, joined-accepted}
use Rattle.join_marks.proofs.Lists.{moved-ascends}
use Rattle.std.specs.Prelude.{None}

-- the token of a breach stands behind the Statement, and is there
breach-inside : (t : Tree) (s : Schema) → Rooted 90 t → (i : ℕ) {x : Item} → Breach t s i x → (1 ≤ i) × (i < t.size)
breach-inside t s ok i {x} h =
    let st = owner-stands t s ok x ((list-exact t s ok x).1 (i, h)) in
    let e = breach-owner t s i h in
    let c : ℕ = child t 0 x.clause in
    let l : c ≤ t.size = past-le t x.clause 1 ok.some in
    (omega (arith, e, st.1, past-ge t x.clause 1), omega (arith, e, st.2, past-le t 1 c l))

module _ (a b : Doc) (pa : grammar_fault WholeStatement a ≡ None) (pb : grammar_fault WholeStatement b ≡ None)
    (few : length (joined a b).tokens ≤ max_tokens) (few_names : length (joined a b).names ≤ max_names) where
  sa : Statement a
  sa = is-statement a pa

  sb : Statement b
  sb = is-statement b pb

  sw : Statement (joined a b)
  sw = joined-statement a b sa sb few_names

  -- how far the second's tokens and clauses are moved on
  abbrev tokens : ℕ
  tokens = length a.tokens - 1

  abbrev clauses : ℕ
  clauses = value_of a 0

  -- ---- the clauses of both are clauses of the joined statement
  left-holds : Holds (tree_of a) (tree_of (joined a b)) (value_of a 0) 0 1 (length a.tokens) 0 1
  unfolding tree_of
  left-holds = record {
    whole = whole sa;
    same = left-same a b sa sb few_names;
    begins = past-none (tree_of a) 1;
    begins' = past-none (tree_of (joined a b)) 1;
    among = omega (arith, root-arity sa);
    among' = omega (arith, root-arity sw, (root_is a b).1);
    some = sa.some;
    root = tree-kind a 0 ∙ sa.root;
    roots = tree-kind (joined a b) 0 ∙ (root_is a b).0 ∙ sym sa.root ∙ sym (tree-kind a 0);
  }

  right-holds : Holds (tree_of b) (tree_of (joined a b)) (value_of b 0) 0 1 (length b.tokens) (value_of a 0)
      (length a.tokens)
  unfolding tree_of
  right-holds = record {
    whole = whole sb;
    same = right-same a b sa sb few_names;
    begins = past-none (tree_of b) 1;
    begins' = omega (
      arith,
      past-moved (whole sa) (left-same a b sa sb few_names) (value_of a 0) (omega arith),
      ends-past (whole sa),
    );
    among = omega (arith, root-arity sb);
    among' = omega (arith, root-arity sw, (root_is a b).1);
    some = sb.some;
    root = tree-kind b 0 ∙ sb.root;
    roots = tree-kind (joined a b) 0 ∙ (root_is a b).0 ∙ sym sb.root ∙ sym (tree-kind b 0);
  }

  module _ (s : Schema) where
    -- ---- the breaches of the first are breaches of the joined statement, as they stand
    module _ (i : ℕ) (p : 1 ≤ i) (q : i < length a.tokens) where
      same-clause : clause_of (tree_of (joined a b)) i ≡ clause_of (tree_of a) i
      same-clause = omega (arith, holds-clause left-holds i i refl p q)

      first_to : {x : Item} → Breach (tree_of a) s i x → Breach (tree_of (joined a b)) s i x
      first_to {x} h =
          let e : placed i (clause_of (tree_of (joined a b)) i) x ≡ x =
          ap (λ (c : ℕ). placed i c x) same-clause ∙ sym (breach-placed (tree_of a) s i x h) in
          subst (λ (y : Item). Breach (tree_of (joined a b)) s i y) e (holds-breach left-holds s i i refl p q h)

      first-from : {x : Item} → Breach (tree_of (joined a b)) s i x → Breach (tree_of a) s i x
      first-from {x} h =
          let r = holds-both left-holds s i i refl p q h in
          let e : placed i (clause_of (tree_of a) i) x ≡ x =
          ap (λ (c : ℕ). placed i c x) (sym same-clause) ∙ sym r.1 in
          subst (λ (y : Item). Breach (tree_of a) s i y) e r.0

    -- ---- those of the second are, moved on
    second-to : (i : ℕ) → 1 ≤ i → i < length b.tokens → {x : Item} → Breach (tree_of b) s i x
        → Breach (tree_of (joined a b)) s (tokens + i) (moved_on tokens clauses x)
    second-to i p q h =
        further-on right-holds tokens clauses (omega (arith, sa.some)) (omega arith) s i p q h

    second_from : (i : ℕ) → 1 ≤ i → i < length b.tokens → {y : Item}
        → Breach (tree_of (joined a b)) s (tokens + i) y
        → (x : Item) × Breach (tree_of b) s i x × (y ≡ moved_on tokens clauses x)
    second_from i p q h =
        from-further-on right-holds tokens clauses (omega (arith, sa.some)) (omega arith) s i p q h

    -- ---- the list
    first-rooted : Rooted 90 (tree_of a)
    first-rooted = statement-rooted a sa.some pa

    second-rooted : Rooted 90 (tree_of b)
    second-rooted = statement-rooted b sb.some pb

    joined-rooted : Rooted 90 (tree_of (joined a b))
    joined-rooted = statement-rooted (joined a b) sw.some (joined-accepted a b pa pb few few_names)

    abbrev both-lists : List Item
    both-lists = listed (tree_of a) s ++ map (moved_on tokens clauses) (listed (tree_of b) s)

    -- each item of the two lists is a breach
    is-breach : (x : Item) → Memᴰ x both-lists → (i : ℕ) × Breach (tree_of (joined a b)) s i x
    unfolding tree_of
    is-breach x m = ⊎_elim
        (λ l. let r = (list-exact (tree_of a) s first-rooted x).0 l in
        let k = breach-inside (tree_of a) s first-rooted r.0 r.1 in
        (r.0, first_to r.0 k.0 k.1 r.1))
        (λ l. let y = map-mem (moved_on tokens clauses) (listed (tree_of b) s) l in
        let r = (list-exact (tree_of b) s second-rooted y.0).0 y.1 in
        let k = breach-inside (tree_of b) s second-rooted r.0 r.1 in (
          tokens + r.0,
          subst (λ (z : Item). Breach (tree_of (joined a b)) s (tokens + r.0) z) (sym y.2)
              (second-to r.0 k.0 k.1 r.1),
        ))
        (Memᴰ.append_cases (listed (tree_of a) s) m)

    -- and each breach is an item of one of them
    is-listed : (x : Item) (i : ℕ) → Breach (tree_of (joined a b)) s i x → Memᴰ x both-lists
    unfolding tree_of
    is-listed x i h =
        let k = breach-inside (tree_of (joined a b)) s joined-rooted i h in
        ⊎_elim
        (λ l. Memᴰ.append_left _ ((list-exact (tree_of a) s first-rooted x).1 (i, first-from i k.0 l h)))
        (λ l. let e : i ≡ tokens + (i - tokens) = omega (arith, sa.some) in
        let n = joined-tokens a b sa.some sb.some in
        let r = second_from (i - tokens) (omega (arith, sa.some)) (omega (arith, n, k.1, sa.some))
        (subst (λ (j : ℕ). Breach (tree_of (joined a b)) s j x) e h) in
        Memᴰ.append_right (listed (tree_of a) s)
        (Memᴰ.cast r.2 (mem-map (moved_on tokens clauses)
        ((list-exact (tree_of b) s second-rooted r.0).1 (i - tokens, r.1)))))
        (below i (length a.tokens))

    -- clauses of the first come before those of the second
    first-before : (x y : Item) → Memᴰ x (listed (tree_of a) s)
        → Memᴰ y (map (moved_on tokens clauses) (listed (tree_of b) s)) → Precedes (whole_key x) (whole_key y)
    first-before x y m n =
        let c = (owner-stands (tree_of a) s first-rooted x m).0 in
        let r = map-mem (moved_on tokens clauses) (listed (tree_of b) s) n in
        let e : y.clause ≡ clauses + r.0.clause = ap (λ (z : Item). z.clause) r.2 in
        inl (omega (arith, c, e, root-value sa))

    -- The two lists, the second's moved on, are all breaches of the joined statement in order
    pub joined-breaches : AllBreaches (tree_of (joined a b)) s both-lists
    joined-breaches = record {
      exact = λ x. (is-breach x, λ r. is-listed x r.0 r.1);
      ascending = asc-append whole_key (listed (tree_of a) s) (map (moved_on tokens clauses) (listed (tree_of b) s))
          (all-breaches (tree_of a) s first-rooted).ascending
          (moved-ascends tokens clauses (listed (tree_of b) s) (all-breaches (tree_of b) s second-rooted).ascending)
          first-before;
    }

    pub joined-listed : listed (tree_of (joined a b)) s ≡ both-lists
    joined-listed =
        only-list (tree_of (joined a b)) s _ _ (all-breaches (tree_of (joined a b)) s joined-rooted) joined-breaches

    -- ---- The message of each item is the same bytes
    pub first-message : (x : Item) → Memᴰ x (listed (tree_of a) s)
        → message_of (tree_of (joined a b)) s x ≡ message_of (tree_of a) s x
    unfolding tree_of
    first-message x m =
        let r = (list-exact (tree_of a) s first-rooted x).0 m in
        let k = breach-inside (tree_of a) s first-rooted r.0 r.1 in
        let c : ℕ = clause_of (tree_of a) r.0 in
        ap (message_of (tree_of (joined a b)) s) (breach-placed (tree_of a) s r.0 x r.1)
        ∙ holds_text left-holds s r.0 r.0 refl k.0 k.1 c r.1

    pub second-message : (x : Item) → Memᴰ x (listed (tree_of b) s)
        → message_of (tree_of (joined a b)) s (moved_on tokens clauses x) ≡ message_of (tree_of b) s x
    unfolding tree_of
    second-message x m =
        let r = (list-exact (tree_of b) s second-rooted x).0 m in
        let k = breach-inside (tree_of b) s second-rooted r.0 r.1 in
        let e = breach-owner (tree_of b) s r.0 r.1 in
        holds_text right-holds s r.0 (tokens + x.owner) (omega (arith, e, sa.some)) k.0 k.1
        (clauses + x.clause) r.1
