-- The joined sheet: its sizes, its pieces, and what is done.
use mathlib.Core.Path.{◌≡◌, refl, sym, ap, ◌∙◌}
use mathlib.Core.Bool.{Bool, true, false}
use mathlib.Core.List.{List, [], ◌∷◌, ◌++◌, map}
use Prim.Native.Nat.{ℕ, ◌+◌, ◌-◌, ◌≤◌, ◌<◌}
use native.Mathlib.Omega.{arith}
use borrow.Author.Tests.{le-leb, lt-leb}
use lib.ListN.{length, drop, length-drop, length-map}
use Rattle.lists.proofs.Joins.{each_append}
use Rattle.frame.specs.Limits.{max_tokens, max_names, max_text}
use Rattle.frame.specs.Inner.{max_bytes}
use Rattle.frame.specs.Sheet.{sheet_of, bytes_of}
use Rattle.frame.specs.Doc.{Doc, Token, doc_of, value_of}
use Rattle.frame.specs.declared.Sheet.{Sheet}
use Rattle.rules.specs.Kinds as Kind
use Rattle.schema.specs.Declarations.{statement_fault}
use Rattle.schema.specs.Effect.{refusal, writes, exit, fitted, Done}
use Rattle.schema.specs.Inner.{on_sheet, statement_frame}
use Rattle.schema.proofs.Effects.{refuses}
use Rattle.schema.proofs.Openings.{goes-on, turned-down}
use Rattle.written.specs.Written.{text_in, ends_from, sizes_in, sizes_within, written, within_limits}
use Rattle.written.specs.Inner.{Begun, TokensPut, NamesPut}
use Rattle.written.proofs.Begun.{begun-as, finished}
use Rattle.written.proofs.Bytes.{ends-append, ends-length, written-length}
use Rattle.join.specs.Join.{numbered_after, joined, join_effect, join_statements}
use Rattle.join.proofs.Documents.{numbered-none, joined-tokens, joined-names, joined-text}
use Rattle.join.proofs.Stated.{few-of, some-token}
use Rattle.join.specs.Inner.{Few, Stated, joined_sizes, Follows, alone}
use Rattle.std.specs.Prelude.{Result, Ok, Err}
use Rattle.schema.specs.declared.Refusal.{Refusal}

-- ---- the sizes
pub all-within : (f : Sheet) → f.tokens ≤ max_tokens → f.names ≤ max_names → f.text ≤ max_text → true ≡ sizes_within f
all-within f a b c = simp (le-leb _ _ a, le-leb _ _ b, le-leb _ _ c)

-- sizes that were computed, and the length that they make
pub few-as : {h k : Sheet} → h ≡ k → sizes_within h ≡ true → Few k
few-as {h} {k} e w = few-of k (rw e at w)

-- no sheet within the limits is longer than the longest
pub bytes-few : {h k : Sheet} {b : ℕ} → h ≡ k → sizes_within h ≡ true → b ≡ bytes_of h → b ≤ max_bytes
bytes-few {h} e w q = let f = few-of h w in omega (arith, q, f.tokens, f.names, f.text)

pub room_as : {h k : Sheet} {b n : ℕ} → h ≡ k → b ≡ bytes_of h → b ≤ n → bytes_of k ≤ n
room_as e q o = rw (← e, ← q) o

pub sum_is : {a b m n : ℕ} → a ≡ m → b ≡ n → a + b ≡ m + n
sum_is p q = rw (p, q)

-- ---- two statements that were read
module _ {s d : List ℕ} {f g : Sheet} (x : Stated s f) (y : Stated d g) where
  abbrev whole : Doc
  whole = joined (doc_of s) (doc_of d)

  -- its sizes, by those of the two
  pub sizes-are : joined_sizes f g ≡ sizes_in whole
  sizes-are =
      let t : length whole.tokens ≡ f.tokens + g.tokens - 1 =
      omega (
        arith,
        joined-tokens (doc_of s) (doc_of d) (some-token x) (some-token y),
        x.sheet.tokens,
        y.sheet.tokens,
      ) in
      let n : length whole.names ≡ f.names + g.names =
      omega (arith, joined-names (doc_of s) (doc_of d), x.sheet.names, y.sheet.names) in
      let b : length (text_in whole.names) ≡ f.text + g.text =
      omega (arith, joined-text (doc_of s) (doc_of d), x.text, y.text) in
      rw (t, n, b)

  pub limits : within_limits whole ≡ sizes_within (joined_sizes f g)
  limits = ap sizes_within (sym sizes-are)

  module _ {h : Sheet} (e : h ≡ joined_sizes f g) where
    sized : (h.tokens ≡ f.tokens + g.tokens - 1) × (h.names ≡ f.names + g.names) × (h.text ≡ f.text + g.text)
    sized = rw e (refl, refl, refl)

    -- room for the clauses of each, behind a Statement and behind the first
    pub first-follows : Follows h alone f
    first-follows = record {
      tokens = omega (arith, y.sheet.some_tokens, sized.0);
      names = omega (arith, sized.1);
      text = omega (arith, sized.2);
    }

    pub second-follows : Follows h f g
    second-follows = record {
      tokens = omega (arith, x.sheet.some_tokens, sized.0);
      names = omega (arith, sized.1);
      text = omega (arith, sized.2);
    }

    pub few-there : Few (joined_sizes f g) → Few h
    few-there k = rw e k

    pub room-there : {n : ℕ} → bytes_of (joined_sizes f g) ≤ n → bytes_of h ≤ n
    room-there k = rw e k

    -- the Statement is a token
    pub root-there : 0 < h.tokens
    root-there = omega (arith, sized.0, x.sheet.some_tokens, y.sheet.some_tokens)

  -- the pieces, one after the other, are the joined sheet
  pub all-put : {h : Sheet} {v : ℕ} {l m n o p q r : List ℕ} → h ≡ joined_sizes f g
      → v ≡ value_of (doc_of s) 0 + value_of (doc_of d) 0 → Begun h [] [] [] l m
      → TokensPut h 0 (record { kind = Kind.Statement; value = v } ∷ []) m n
      → TokensPut h 1 (map (numbered_after 0) (drop 1 (doc_of s).tokens)) n o
      → TokensPut h f.tokens (map (numbered_after f.names) (drop 1 (doc_of d).tokens)) o p
      → NamesPut h 0 (ends_from 0 (doc_of s).names) 0 (text_in (doc_of s).names) p q
      → NamesPut h f.names (ends_from f.text (doc_of d).names) f.text (text_in (doc_of d).names) q r
      → r ≡ exit (writes 0 (written whole)) l
  unfolding exit joined
  all-put {h} {v} {l} {r = r} e ev b t t₁ t₂ n₁ n₂ =
      let a = doc_of s in
      let root : Token = record { kind = Kind.Statement; value = v } in
      let b₁ = t₁.adds (t.adds b refl) refl in
      let k : f.tokens ≡ length (root ∷ map (numbered_after 0) (drop 1 a.tokens)) = omega (
        arith,
        length-map (drop 1 a.tokens) (numbered_after 0),
        length-drop 1 a.tokens,
        x.sheet.tokens,
        x.sheet.some_tokens,
      ) in
      let b₂ = n₁.adds (t₂.adds b₁ k) refl refl in
      let b₃ = n₂.adds b₂ (omega (arith, ends-length 0 a.names, x.sheet.names)) (sym x.text) in
      let begun : Begun h whole.tokens (ends_from 0 whole.names) (text_in whole.names) l r =
      begun-as tokens-are ends-are text-is b₃ in
      finished whole (e ∙ sizes-are) begun
    where
      tokens-are : record { kind = Kind.Statement; value = v } ∷ (map (numbered_after 0) (drop 1 (doc_of s).tokens)
          ++ map (numbered_after f.names) (drop 1 (doc_of d).tokens)) ≡ whole.tokens
      tokens-are = rw (ev, numbered-none (drop 1 (doc_of s).tokens), x.sheet.names)

      ends-are : ends_from 0 (doc_of s).names ++ ends_from f.text (doc_of d).names ≡ ends_from 0 whole.names
      ends-are =
          let z : 0 + length (text_in (doc_of s).names) ≡ f.text = omega (arith, x.text) in
          sym (ends-append 0 (doc_of s).names (doc_of d).names
          ∙ ap (λ (k : ℕ). ends_from 0 (doc_of s).names ++ ends_from k (doc_of d).names) z)

      text-is : text_in (doc_of s).names ++ text_in (doc_of d).names ≡ text_in whole.names
      text-is = sym (each_append (λ n. n) (doc_of s).names (doc_of d).names)

  -- ---- 20, 16, or the joined sheet
  module _ (l : List ℕ) (h : Sheet) (e : h ≡ joined_sizes f g) (t : Bool) (u : t ≡ sizes_within h) where
    limit_is : within_limits whole ≡ t
    limit_is = limits ∙ ap sizes_within (sym e) ∙ sym u

    pub past_limit : {r : Result ℕ Refusal} → t ≡ false → Done (refusal 20 0 0) l r l → Done (join_effect whole l) l r l
    unfolding join_effect
    past_limit v w = rw (limit_is ∙ v) w

    module _ (v : t ≡ true) (b : ℕ) (k : b ≡ bytes_of h) where
      bytes-are : length (written whole) ≡ b
      bytes-are = written-length whole ∙ ap bytes_of (sym (e ∙ sizes-are)) ∙ sym k

      pub no_room : {r : Result ℕ Refusal} → length l < b → Done (refusal 16 0 0) l r l → Done (join_effect whole l) l r l
      unfolding join_effect fitted
      no_room o w =
          let z = lt-leb (length (written whole)) (length l) (omega (arith, bytes-are)) in
          rw (limit_is ∙ v, z) w

      pub joined-put : {o : List ℕ} → b ≤ length l → o ≡ exit (writes 0 (written whole)) l
          → Done (join_effect whole l) l (Ok b) o
      unfolding join_effect fitted exit
      joined-put j z =
          let w = le-leb (length (written whole)) (length l) (omega (arith, bytes-are)) in
          rw (limit_is ∙ v, w) (record { answer = ap Ok (sym bytes-are); buffer = z })

-- ---- the refusals of the first and of the second sheet
module _ (s d l : List ℕ) (q : Result Sheet Refusal) (e : q ≡ on_sheet 1 (statement_frame s)) where
  pub first-refused : (r : Refusal) → q ≡ Err r → Done (join_statements s d l) l (Err r) l
  unfolding join_statements statement_frame
  first-refused r h =
      let t = turned-down 1 q (statement_fault s) (sheet_of s) r e h in
      rw t.1 (refuses t.0.number 1 t.0.place l (ap (λ (x : Refusal). Err x) t.2))

  module _ (f : Sheet) (h : q ≡ Ok f) (q' : Result Sheet Refusal) (e' : q' ≡ on_sheet 2 (statement_frame d)) where
    pub second-refused : (r : Refusal) → q' ≡ Err r → Done (join_statements s d l) l (Err r) l
    unfolding join_statements statement_frame
    second-refused r k =
        let a = goes-on 1 q (statement_fault s) (sheet_of s) f e h in
        let t = turned-down 2 q' (statement_fault d) (sheet_of d) r e' k in
        rw (a.0, t.1) (refuses t.0.number 2 t.0.place l (ap (λ (x : Refusal). Err x) t.2))

    pub both-stated : (g : Sheet) {r : Result ℕ Refusal} {o : List ℕ} → q' ≡ Ok g
        → Done (join_effect (joined (doc_of s) (doc_of d)) l) l r o → Done (join_statements s d l) l r o
    unfolding join_statements statement_frame
    both-stated g k w = rw (
      (goes-on 1 q (statement_fault s) (sheet_of s) f e h).0,
      (goes-on 2 q' (statement_fault d) (sheet_of d) g e' k).0,
    ) w
