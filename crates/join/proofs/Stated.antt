-- A statement that was read: its sizes are within the limits, its clauses are fewer than its tokens, and each Name is
-- one of its names.
use mathlib.Core.Bool.{true}
use mathlib.Core.Path.{◌≡◌, refl, sym, ap, ◌∙◌, subst}
use mathlib.Core.List.{List}
use Prim.Native.Nat.{ℕ, zero, suc, ◌<◌}
use native.Mathlib.Omega.{arith}
use borrow.Author.Tests.{leb-true}
use lib.ListN.{length}
use lib.Dec.{leb}
use Rattle.lists.proofs.Tests.{both_true}
use Rattle.frame.specs.Limits.{max_tokens, max_names}
use Rattle.frame.specs.Sheet.{sheet_of, frame_fault}
use Rattle.frame.specs.Doc.{doc_of, kind_of, value_of}
use Rattle.frame.specs.declared.Sheet.{Sheet}
use Rattle.frame.proofs.Laws.{or-else, ranges, all-passed, sound}
use Rattle.rules.specs.declared.Place.TheVariants.{WholeStatement}
use Rattle.rules.specs.Rules.{opens, arity}
use Rattle.grammar.specs.Machine.{grammar_fault}
use Rattle.grammar.specs.Tree.{Tree, tree_of, past, child}
use Rattle.grammar.proofs.Places.{past-none, past-suc, end-gt}
use Rattle.grammar.proofs.Flat.{tree-kind, tree-value, allowed-inside, name_below}
use Rattle.grammar.proofs.Formed.{arity-at, formed, statement-counts, statement-rooted}
use Rattle.grammar.proofs.Skipping.{seated}
use Rattle.schema.specs.Declarations.{statement_fault}
use Rattle.schema.specs.Inner.{on_sheet, statement_frame}
use Rattle.schema.specs.declared.Refusal.{Refusal}
use Rattle.schema.proofs.Openings.{goes-on}
use Rattle.written.specs.Written.{sizes_within}
use Rattle.written.proofs.Sizes.{doc-text}
use Rattle.join.specs.Inner.{Few, Stated}
use Rattle.std.specs.Prelude.{None, Result, Ok}

-- sizes within the limits
pub few-of : (f : Sheet) → sizes_within f ≡ true → Few f
few-of f h =
    let a = both_true (leb f.tokens max_tokens) _ h in
    let b = both_true (leb f.names max_names) _ a.1 in
    record { tokens = leb-true _ _ a.0; names = leb-true _ _ b.0; text = leb-true _ _ b.1 }

-- a statement sheet without fault is read, with the sizes that it says
pub faultless : (s : List ℕ) → statement_fault s ≡ None → Stated s (sheet_of s)
unfolding statement_fault
faultless s h =
    let b = or-else (frame_fault s) (grammar_fault WholeStatement (doc_of s)) h in
    let r = ranges (sheet_of s) (all-passed s b.0).sized.ranges in
    record {
      sheet = sound s (sheet_of s) b.0 refl;
      read = b.1;
      within = record { tokens = r.few_tokens; names = r.few_names; text = r.short_text };
      text = doc-text s b.0;
    }

-- what opening a statement tells
pub stated : (n : ℕ) (s : List ℕ) (f : Sheet) (q : Result Sheet Refusal) → q ≡ on_sheet n (statement_frame s) → q ≡ Ok f
    → Stated s f
unfolding statement_frame
stated n s f q e h =
    let a = goes-on n q (statement_fault s) (sheet_of s) f e h in
    subst (Stated s) a.1 (faultless s a.0)

-- it has a token
pub some-token : {s : List ℕ} {f : Sheet} → Stated s f → 0 < length (doc_of s).tokens
some-token z = omega (arith, z.sheet.tokens, z.sheet.some_tokens)

-- as many tokens as trees, where each of these begins at a token
trees-room : (t : Tree) (n : ℕ) → ((c : ℕ) → c < n → past t c 1 < t.size) → n < past t n 1
trees-room t zero h = rw (past-none t 1) (omega arith)
trees-room t (suc n) h =
    let r = trees-room t n (λ c b. h c (omega arith)) in
    rw (past-suc t n 1) (omega (arith, r, end-gt t (past t n 1) (h n (omega arith))))

module _ (s : List ℕ) (f : Sheet) (z : Stated s f) where
  -- a Name's value is the number of one of the names
  pub name-there : (i : ℕ) → i < f.tokens → kind_of (doc_of s) i ≡ 50 → value_of (doc_of s) i < f.names
  name-there i b k =
      let q = seated (doc_of s) WholeStatement z.read i (omega (arith, z.sheet.tokens)) in
      omega (arith, name_below (doc_of s) q.0 i q.1 k, z.sheet.names)

  -- each clause has a token
  pub clauses-few : value_of (doc_of s) 0 < f.tokens
  unfolding tree_of
  clauses-few =
      let d = doc_of s in
      let some : 0 < length d.tokens = some-token z in
      let r = statement-rooted d some z.read in
      let k : kind_of d 0 ≡ 90 = sym (tree-kind d 0) ∙ r.root in
      let v : (tree_of d).value 0 ≡ value_of d 0 = tree-value d 0 (λ e. let x : 90 ≡ 50 = sym k ∙ e in omega arith) in
      let n : length (opens (kind_of d 0) (value_of d 0)) ≡ value_of d 0 =
      sym (arity-at d 0) ∙ ap (λ (j : ℕ). arity j ((tree_of d).value 0)) r.root ∙ statement-counts _ ∙ v in
      let b : (c : ℕ) → c < value_of d 0 → past (tree_of d) c 1 < (tree_of d).size =
      λ c h. allowed-inside d _ (child (tree_of d) 0 c) (formed d WholeStatement z.read 0 some c (omega (arith, n))) in
      let c : past (tree_of d) (value_of d 0) 1 ≡ (tree_of d).size =
      ap (λ (j : ℕ). past (tree_of d) j 1) (sym v) ∙ r.covers in
      omega (arith, trees-room (tree_of d) (value_of d 0) b, c, z.sheet.tokens)
