-- The first declaration of a kind with each number: one more token.
use mathlib.Core.Path.{◌≡◌, ◌∙◌, refl, sym, ap, subst}
use mathlib.Core.Bool.{Bool, true, false}
use mathlib.Core.Logic.{◌⊎◌, inl, inr}
use mathlib.Core.List.{List, [], ◌∷◌, ◌++◌, append-nil}
use Prim.Native.Nat.{ℕ, zero, suc, ◌+◌, ◌-◌, ◌≤◌, ◌<◌}
use native.Mathlib.Omega.{arith}
use native.Mathlib.Numerals.{add-one}
use borrow.Author.Tests.{eqb-true, eq-eqb, ne_eqb}
use lib.Dec.{eqb}
use lib.ListN.{length, get_or, set, length-set}
use lib.Seq.{get_or-set_same, get_or-set_other}
use Rattle.lists.specs.Lists.{pick, over, first, any_of, table}
use Rattle.lists.proofs.Tests.{never, true-or-false}
use Rattle.lists.proofs.Ranges.{through-in, through-bounds}
use Rattle.lists.proofs.Laws.{over-one, over-join}
use Rattle.frame.specs.Doc.{Doc, doc_of, kind_of, value_of}
use Rattle.frame.specs.declared.Sizes.{Sizes}
use Rattle.rules.specs.Kinds as Kind
use Rattle.rules.specs.Rules.{rules, opens}
use Rattle.grammar.specs.Tree.{tree_of}
use Rattle.grammar.specs.Inner.{NameAt}
use Rattle.schema.specs.Declarations.{of_kind}
use Rattle.schema.specs.Inner.{Named, Owning}
use Rattle.schema.proofs.Named.{named-below}
use Rattle.numbers.specs.Least.{all_names, texts_of, least_same}
use Rattle.numbers.proofs.Laws.{numbers-low}
use Rattle.numbers.proofs.Texts.{texts-length}
use Rattle.register.specs.Register.{Entered, Exact, entry_at, aparts_at, entry_of, first_with}
use Rattle.register.specs.Inner.{Registering}
use Rattle.std.specs.Prelude.{Some, None}

-- ---- kinds
pub entered-in : (k : ℕ) → Entered k → (Kind.Label ≤ k) × (k ≤ Kind.Procedure)
entered-in k e = through-bounds Kind.Label Kind.Procedure k e

pub in-entered : (k : ℕ) → Kind.Label ≤ k → k ≤ Kind.Procedure → Entered k
in-entered k l h = through-in Kind.Label Kind.Procedure k l h

pub function-entered : Entered Kind.Function
function-entered = in-entered Kind.Function (omega arith) (omega arith)

-- those that have items have exact names
pub owning-exact : (k : ℕ) → Owning k → Exact k
owning-exact k o =
    let b = through-bounds Kind.Label Kind.RelType k o in
    (in-entered k b.0 (omega (arith, b)), λ e. omega (arith, b))

-- and so have Procedures
pub procedure-exact : Exact Kind.Procedure
procedure-exact = (in-entered Kind.Procedure (omega arith) (omega arith), λ e. omega arith)

-- each of these kinds begins with a Name
five : (a : ℕ) → a < 5 → Named (101 + a)
unfolding opens rules first any_of table
five zero h v = (omega arith, refl)
five (suc zero) h v = (omega arith, refl)
five (suc (suc zero)) h v = (omega arith, refl)
five (suc (suc (suc zero))) h v = (omega arith, refl)
five (suc (suc (suc (suc zero)))) h v = (omega arith, refl)
five (suc (suc (suc (suc (suc a))))) h v = absurd (omega arith)

pub entered-named : (k : ℕ) → Entered k → Named k
entered-named k e =
    let b = entered-in k e in
    let m : 101 + (k - 101) ≡ k = omega (arith, b) in
    subst Named m (five (k - 101) (omega (arith, b)))

-- ---- the first that passes, with one more behind
abbrev pub or_next : ℕ → Bool → ℕ → ℕ
or_next w t e = pick (eqb w 0) (pick t e 0) w

pub first_more : (p : ℕ → Bool) (a : List ℕ) (j : ℕ) → entry_of (first p (a ++ (j ∷ []))) ≡ or_next (entry_of (first p a)) (p j) (j + 1)
unfolding first
first_more p [] j = go (p j)
  where
    go : (q : Bool) → entry_of (pick q (Some j) None) ≡ pick q (j + 1) 0
    go true = refl
    go false = refl
first_more p (x ∷ a) j = go (p x) (first_more p a j)
  where
    go : (q : Bool) → entry_of (first p (a ++ (j ∷ []))) ≡ or_next (entry_of (first p a)) (p j) (j + 1)
        → entry_of (pick q (Some x) (first p (a ++ (j ∷ [])))) ≡ or_next (entry_of (pick q (Some x) (first p a))) (p j) (j + 1)
    go true e = rw (ne_eqb (x + 1) 0 (λ z. omega arith))
    go false e = e

module _ (d : Doc) (ts : List (List ℕ)) (k n : ℕ) where
  pub kinds-more : over (of_kind (tree_of d) k) 0 (n + 1) ≡ over (of_kind (tree_of d) k) 0 n ++ of_kind (tree_of d) k n
  kinds-more =
      rw (add-one n)
      (sym (over-join (of_kind (tree_of d) k) 0 n (suc n) (omega arith) (omega arith))
      ∙ ap (λ (l : List ℕ). over (of_kind (tree_of d) k) 0 n ++ l) (over-one (of_kind (tree_of d) k) n))

  with-other : (x : ℕ) → (kind_of d n ≡ k → ⊥) → first_with d ts k (n + 1) x ≡ first_with d ts k n x
  unfolding first_with tree_of
  with-other x h = rw (kinds-more, ne_eqb (kind_of d n) k h, append-nil)

  with-more : (x : ℕ) → kind_of d n ≡ k
      → first_with d ts k (n + 1) x ≡ or_next (first_with d ts k n x) (eqb (least_same ts (value_of d (n + 1))) x) (n + 1)
  unfolding first_with tree_of
  with-more x h =
      rw (kinds-more, eq-eqb (kind_of d n) k h)
      (first_more (λ j. eqb (least_same ts (value_of d (j + 1))) x) (over (of_kind (tree_of d) k) 0 n) n)

pub passed : (n w : ℕ) (t : Bool) → (t ≡ true → w ≡ 0 → ⊥) → w ≡ or_next w t (n + 1)
passed n zero true g = absurd (g refl refl)
passed n zero false g = refl
passed n (suc w) t g = rw (ne_eqb (suc w) 0 (λ e. omega arith))

-- ---- token j, by its kind c
module _ (s d : List ℕ) (sizes : Sizes) (j m : ℕ) (reg : List ℕ) (z : Registering s d sizes j j m reg) (c : ℕ)
    (ec : c ≡ kind_of (doc_of d) j) where
  passed_over : ((k : ℕ) → Entered k → c ≡ k → ⊥) → Registering s d sizes (j + 1) j m reg
  passed_over h =
      record {
        schema = z.schema;
        statement = z.statement;
        room = z.room;
        numbers = z.numbers;
        firsts = λ k x e l. z.firsts k x e l ∙ sym (with-other (doc_of d) (texts_of d s) k j x (λ q. h k e (ec ∙ q)));
        count = z.count;
        few = z.few;
        aparts = z.aparts;
      }

  pub enter-low : c < Kind.Label → Registering s d sizes (j + 1) j m reg
  enter-low h = passed_over (λ k e q. omega (arith, entered-in k e))

  pub enter-high : Kind.Procedure < c → Registering s d sizes (j + 1) j m reg
  enter-high h = passed_over (λ k e q. omega (arith, entered-in k e))

  -- a declaration, whose name is number v of the schema's and has the number y
  module _ (here : j < sizes.schema.tokens) (low : Kind.Label ≤ c) (high : c ≤ Kind.Procedure) where
    pub name-at : NameAt (doc_of d) (j + 1)
    name-at =
        let e : Entered c = in-entered c (omega arith) (omega arith) in
        named-below d sizes.schema j c z.schema here (sym ec) (entered-named c e)

    module _ (v w : ℕ) (ev : v ≡ value_of (doc_of d) (j + 1)) (ew : w ≡ v) where
      pub name-low : w < sizes.schema.names
      name-low = omega (arith, name-at.below, z.schema.sheet.names)

      pub name-inside : w < length reg
      name-inside = omega (arith, name-low, z.room)

      y-is : get_or reg w 0 ≡ least_same (texts_of d s) (value_of (doc_of d) (j + 1))
      y-is = z.numbers.each w (omega (arith, name-low)) ∙ ap (least_same (texts_of d s)) (ew ∙ ev)

      pub y-low : get_or reg w 0 < all_names sizes
      y-low =
          omega (
            arith,
            name-low,
            numbers-low (texts_of d s) (all_names sizes) reg z.numbers
                (omega (arith, texts-length s d sizes z.schema.sheet z.statement)) w (omega (arith, name-low)),
          )

      module _ (at : ℕ) (ea : at ≡ entry_at (all_names sizes) (get_or reg w 0) c) where
        pub at-inside : at < length reg
        at-inside = omega (arith, y-low, z.room)

        same_or : (k x : ℕ) → ((k ≡ c) × (x ≡ get_or reg w 0)) ⊎ (((k ≡ c) × (x ≡ get_or reg w 0)) → ⊥)
        same_or k x = go (true-or-false (eqb k c)) (true-or-false (eqb x (get_or reg w 0)))
          where
            go : (eqb k c ≡ true) ⊎ (eqb k c ≡ false) → (eqb x (get_or reg w 0) ≡ true) ⊎ (eqb x (get_or reg w 0) ≡ false)
                → ((k ≡ c) × (x ≡ get_or reg w 0)) ⊎ (((k ≡ c) × (x ≡ get_or reg w 0)) → ⊥)
            go (inl p) (inl q) = inl (eqb-true k c p, eqb-true x (get_or reg w 0) q)
            go (inr p) q = inr (λ b. never (sym p ∙ eq-eqb k c b.0))
            go (inl p) (inr q) = inr (λ b. never (sym q ∙ eq-eqb x (get_or reg w 0) b.1))

        -- no other entry changes
        others : (k x : ℕ) → Entered k → (((k ≡ c) × (x ≡ get_or reg w 0)) → ⊥)
            → first_with (doc_of d) (texts_of d s) k j x ≡ first_with (doc_of d) (texts_of d s) k (j + 1) x
        others k x e h = go (true-or-false (eqb k c))
          where
            go : (eqb k c ≡ true) ⊎ (eqb k c ≡ false)
                → first_with (doc_of d) (texts_of d s) k j x ≡ first_with (doc_of d) (texts_of d s) k (j + 1) x
            go (inl p) =
                let q : k ≡ c = eqb-true k c p in
                passed j (first_with (doc_of d) (texts_of d s) k j x) (eqb (least_same (texts_of d s) (value_of (doc_of d) (j + 1))) x)
                (λ t o. h (q, sym (y-is ∙ eqb-true _ x t)))
                ∙ sym (with-more (doc_of d) (texts_of d s) k j x (sym ec ∙ sym q))
            go (inr p) = sym (with-other (doc_of d) (texts_of d s) k j x (λ o. never (sym p ∙ eq-eqb k c (sym (ec ∙ o)))))

        own : first_with (doc_of d) (texts_of d s) c (j + 1) (get_or reg w 0)
            ≡ or_next (first_with (doc_of d) (texts_of d s) c j (get_or reg w 0)) true (j + 1)
        own =
            with-more (doc_of d) (texts_of d s) c j (get_or reg w 0) (sym ec)
            ∙ ap (λ (t : Bool). or_next (first_with (doc_of d) (texts_of d s) c j (get_or reg w 0)) t (j + 1))
            (eq-eqb (least_same (texts_of d s) (value_of (doc_of d) (j + 1))) (get_or reg w 0) (sym y-is))

        entered-c : Entered c
        entered-c = in-entered c (omega arith) (omega arith)

        entry-is : get_or reg at 0 ≡ first_with (doc_of d) (texts_of d s) c j (get_or reg w 0)
        entry-is = ap (λ (i : ℕ). get_or reg i 0) ea ∙ z.firsts c (get_or reg w 0) entered-c y-low

        pub enter-kept : (get_or reg at 0 ≡ 0 → ⊥) → Registering s d sizes (j + 1) j m reg
        enter-kept h =
            record {
              schema = z.schema;
              statement = z.statement;
              room = z.room;
              numbers = z.numbers;
              firsts = λ k x e l. z.firsts k x e l ∙ go k x e (same_or k x);
              count = z.count;
              few = z.few;
              aparts = z.aparts;
            }
          where
            go : (k x : ℕ) → Entered k → ((k ≡ c) × (x ≡ get_or reg w 0)) ⊎ (((k ≡ c) × (x ≡ get_or reg w 0)) → ⊥)
                → first_with (doc_of d) (texts_of d s) k j x ≡ first_with (doc_of d) (texts_of d s) k (j + 1) x
            go k x e (inl b) =
                rw (b.0, b.1)
                (passed j (first_with (doc_of d) (texts_of d s) c j (get_or reg w 0)) true (λ t o. h (entry-is ∙ o)) ∙ sym own)
            go k x e (inr h) = others k x e h

        pub enter-set : (get_or reg at 0 ≡ 0) → Registering s d sizes (j + 1) j m (set reg at (j + 1))
        enter-set h =
            record {
              schema = z.schema;
              statement = z.statement;
              room = rw (length-set reg at (j + 1)) z.room;
              numbers =
                  record {
                    each = λ i l. get_or-set_other reg at i (j + 1) 0 (λ q. omega (arith, q, ea)) ∙ z.numbers.each i l;
                  };
              firsts = λ k x e l. go k x e l (same_or k x);
              count = z.count;
              few = z.few;
              aparts = λ i. get_or-set_other reg at (aparts_at (all_names sizes) + i) (j + 1) 0
                  (λ q. omega (arith, q, ea, y-low)) ∙ z.aparts i;
            }
          where
            go : (k x : ℕ) → Entered k → x < all_names sizes
                → ((k ≡ c) × (x ≡ get_or reg w 0)) ⊎ (((k ≡ c) × (x ≡ get_or reg w 0)) → ⊥)
                → get_or (set reg at (j + 1)) (entry_at (all_names sizes) x k) 0
                ≡ first_with (doc_of d) (texts_of d s) k (j + 1) x
            go k x e l (inl b) =
                let o : first_with (doc_of d) (texts_of d s) c j (get_or reg w 0) ≡ 0 = sym entry-is ∙ h in
                let r : first_with (doc_of d) (texts_of d s) c (j + 1) (get_or reg w 0) ≡ j + 1 = own ∙ rw o in
                rw (b.0, b.1)
                (ap (λ (i : ℕ). get_or (set reg at (j + 1)) i 0) (sym ea) ∙ get_or-set_same reg at (j + 1) 0 at-inside ∙ sym r)
            go k x e l (inr b) =
                get_or-set_other reg at (entry_at (all_names sizes) x k) (j + 1) 0
                (λ q. b (apart k x (entered-in k e).0 (entered-in k e).1 (q ∙ ea)))
                ∙ z.firsts k x e l ∙ others k x e b
              where
                apart : (k x : ℕ) → Kind.Label ≤ k → k ≤ Kind.Procedure
                    → entry_at (all_names sizes) x k ≡ entry_at (all_names sizes) (get_or reg w 0) c
                    → (k ≡ c) × (x ≡ get_or reg w 0)
                apart k x a b q = (omega arith, omega arith)
