-- No two labels, RelTypes or parameters of an opened schema have one name.
use mathlib.Core.Path.{◌≡◌, refl, sym, ◌∙◌, subst}
use mathlib.Core.Bool.{Bool, true, false, not}
use mathlib.Core.List.{List, [], ◌∷◌, ◌++◌, Memᴰ, Permᴰ}
use Prim.Native.Nat.{ℕ, zero, suc, ◌+◌, ◌<◌}
use native.Mathlib.Omega.{arith}
use borrow.Author.Tests.{eqb-true}
use lib.Dec.{eqb}
use lib.ListN.{length, get_or, drop}
use Rattle.lists.specs.Lists.{pick, over, first, any_of, all_of, table}
use Rattle.lists.proofs.Ranges.{through-bounds, through-in}
use Rattle.lists.proofs.Tests.{true-both, false-not}
use Rattle.lists.proofs.Laws.{over-more, over_none}
use Rattle.text.specs.Text.{same_text}
use Rattle.frame.specs.Sheet.{or_else, frame_fault, sheet_of}
use Rattle.frame.specs.Doc.{doc_of}
use Rattle.frame.specs.declared.Sheet.{Sheet}
use Rattle.frame.proofs.Laws.{or-else, no_fault, answer-of}
use Rattle.rules.specs.declared.Place.TheVariants.{WholeSchema}
use Rattle.grammar.specs.Machine.{grammar_fault}
use Rattle.grammar.specs.Tree.{Tree, tree_of}
use Rattle.rules.proofs.Rows.{taken-by}
use Rattle.schema.specs.Declarations.{of_kind, decls_of, name_below, again, fault_at, declared_fault, schema_fault}
use Rattle.schema.specs.Scanned.{tokens_of, repeats}
use Rattle.schema.specs.Inner.{Declaring, Named, schema_frame}
use Rattle.schema.proofs.Searches.{none-mem, not-any, kind-mem, mem-kind}
use Rattle.schema.proofs.Scans.{decls-are, repeats-are}
use Rattle.schema.proofs.Named.{label-named, rel-type-named, parameter-named}
use Rattle.schema.proofs.Openings.{declared-open}
use Rattle.in_order.specs.InOrder.{before}
use Rattle.in_order.proofs.Sorting.{AllDiffer, sorted-ascends, ascending, rearranged, head_of, next-above}
use Rattle.by_name.specs.Inner.{Opened, Stored, ordered_of}
use Rattle.std.specs.Prelude.{None, Result, Ok}
use Rattle.frame.specs.declared.Fault.{Fault}
use Rattle.std.specs.Prelude.{Option, Some}

-- ---- what stands in a list
pub all-mem : {A : Type 0} (q : A → Bool) (l : List A) → ((x : A) → Memᴰ x l → q x ≡ true) → all_of q l ≡ true
unfolding all_of
all-mem q [] h = refl
all-mem q (y ∷ ys) h = true-both (h y (Memᴰ.head refl)) (all-mem q ys (λ x m. h x (Memᴰ.tail m)))

-- ---- the tokens of a kind
module _ (t : Tree) (k : ℕ) where
  -- none of them repeats the name of an earlier one
  module _ (n : ℕ) (h : first (repeats t k) (over (of_kind t k) 0 n) ≡ None) where
    differs : (a j : ℕ) → a < j → j < n → t.kind a ≡ k → t.kind j ≡ k → same_text (name_below t j) (name_below t a)
        ≡ false
    unfolding repeats
    differs a j l g ea ej =
        not-any (λ i. same_text (name_below t j) (name_below t i)) (over (of_kind t k) 0 j)
        (none-mem (repeats t k) (over (of_kind t k) 0 n) h (kind-mem t k 0 n j (omega arith) g ej))
        (kind-mem t k 0 j a (omega arith) l ea)

    differ-by : (m a : ℕ) → m + a ≡ n → AllDiffer (name_below t) (over (of_kind t k) a n)
    differ-by zero a e = subst (λ (l : List ℕ). AllDiffer (name_below t) l)
        (sym (over_none (of_kind t k) a n (omega arith))) tt
    differ-by (suc m) a e = subst (λ (l : List ℕ). AllDiffer (name_below t) l)
        (sym (over-more (of_kind t k) a n (omega arith)))
        (go (eqb (t.kind a) k) refl (differ-by m (a + 1) (omega arith)))
      where
        go : (b : Bool) → eqb (t.kind a) k ≡ b → AllDiffer (name_below t) (over (of_kind t k) (a + 1) n) → AllDiffer
            (name_below t) (pick b (a ∷ []) [] ++ over (of_kind t k) (a + 1) n)
        go true g r = (
          all-mem (λ y. not (same_text (name_below t y) (name_below t a))) (over (of_kind t k) (a + 1) n)
              (λ y q. let u = mem-kind t k (a + 1) n q in false-not
              (differs a y (omega arith) u.1 (eqb-true (t.kind a) k g) u.2)),
          r,
        )
        go false g r = r

  all-differ : first (repeats t k) (tokens_of t k) ≡ None → AllDiffer (name_below t) (tokens_of t k)
  unfolding tokens_of
  all-differ h = differ-by t.size h t.size 0 (omega arith)

-- ---- 10 to 12 are not given
none_found : (n : ℕ) (o : Option ℕ) → fault_at n o ≡ None → o ≡ None
none_found n None e = refl
none_found n (Some i) e = no_fault e

once-of : (t : Tree) → declared_fault t ≡ None
    → (first (again t 101) (decls_of t 101) ≡ None) × (first (again t 102) (decls_of t 102) ≡ None)
    × (first (again t 103) (decls_of t 103) ≡ None)
unfolding declared_fault
once-of t h =
    let a = or-else (fault_at 10 (first (again t 101) (decls_of t 101))) _ h in
    let b = or-else (fault_at 11 (first (again t 102) (decls_of t 102))) _ a.1 in
    let c = or-else (fault_at 12 (first (again t 103) (decls_of t 103))) _ b.1 in
    (none_found 10 _ a.0, none_found 11 _ b.0, none_found 12 _ c.0)

kept-once : (t : Tree) (k : ℕ) → Stored k → declared_fault t ≡ None → first (again t k) (decls_of t k) ≡ None
unfolding table
kept-once t k z h =
    let o = once-of t h in
    taken-by (λ (j : ℕ). first (again t j) (decls_of t j) ≡ None) (101 ∷ 102 ∷ 103 ∷ []) k z (o.0, (o.1, (o.2, tt)))

pub kept-named : (k : ℕ) → Stored k → Named k
unfolding table
kept-named k z = taken-by Named (101 ∷ 102 ∷ 103 ∷ []) k z (label-named, (rel-type-named, (parameter-named, tt)))

pub kept-declares : (k : ℕ) → Stored k → Declaring k
kept-declares k z = let b = through-bounds 101 103 k z in through-in 101 106 k b.0 (omega (arith, b.1))

-- ---- so the declarations of an opened schema are in strict order by name, and all of them stand there
module _ (s : List ℕ) (f : Sheet) (k : ℕ) (z : Opened s f) (e : Stored k) where
  decls-differ : AllDiffer (name_below (tree_of (doc_of s))) (decls_of (tree_of (doc_of s)) k)
  decls-differ =
      let d = kept-declares k e in
      subst (λ (l : List ℕ). AllDiffer (name_below (tree_of (doc_of s))) l) (sym (decls-are z.schema k d))
      (all-differ (tree_of (doc_of s)) k (sym (repeats-are z.schema k d) ∙ kept-once (tree_of (doc_of s)) k e z.once))

  -- The names in order ascend strictly
  pub names-ascend : (i j : ℕ) → i < j → j < length (ordered_of (tree_of (doc_of s)) k)
      → before (name_below (tree_of (doc_of s)) (get_or (ordered_of (tree_of (doc_of s)) k) i 0))
      (name_below (tree_of (doc_of s)) (get_or (ordered_of (tree_of (doc_of s)) k) j 0)) ≡ true
  names-ascend =
      ascending (name_below (tree_of (doc_of s))) (decls_of (tree_of (doc_of s)) k) 0
      decls-differ

  -- After one of them the least above it is the next
  pub names-next : (n : ℕ) → n < length (ordered_of (tree_of (doc_of s)) k)
      → first (λ i. before (name_below (tree_of (doc_of s)) (get_or (ordered_of (tree_of (doc_of s)) k) n 0))
      (name_below (tree_of (doc_of s)) i)) (ordered_of (tree_of (doc_of s)) k) ≡ head_of (drop (suc n) (ordered_of (tree_of (doc_of s)) k))
  names-next n h = next-above (name_below (tree_of (doc_of s))) (ordered_of (tree_of (doc_of s)) k) n 0
      (sorted-ascends (name_below (tree_of (doc_of s))) (decls_of (tree_of (doc_of s)) k) decls-differ) h

  -- They are those of the declarations, none lost and none added
  pub names_stand : Permᴰ (ordered_of (tree_of (doc_of s)) k) (decls_of (tree_of (doc_of s)) k)
  names_stand = rearranged (name_below (tree_of (doc_of s))) (decls_of (tree_of (doc_of s)) k)

-- what a caller knows of a schema that opens
pub opened : (s : List ℕ) (f : Sheet) (q : Result Sheet Fault) → q ≡ schema_frame s → q ≡ Ok f → Opened s f
unfolding schema_frame schema_fault
opened s f q e h =
    let a = answer-of (schema_fault s) (sheet_of s) f (sym e ∙ h) in
    let x = grammar_fault WholeSchema (doc_of s) in
    let y = declared_fault (tree_of (doc_of s)) in
    let b = or-else (frame_fault s) (or_else x y) a.0 in
    record { schema = declared-open s f q e h; once = (or-else x y b.1).1 }

-- the kinds that are kept
pub label_kept : Stored 101
unfolding any_of table
label_kept = refl

pub rel-type-kept : Stored 102
unfolding any_of table
rel-type-kept = refl

pub parameter-kept : Stored 103
unfolding any_of table
parameter-kept = refl
