-- Joining is associative, of documents and of sheets, and a statement without clauses adds none.
use mathlib.Core.Bool.{true}
use mathlib.Core.Path.{◌≡◌, refl, sym, ap, ◌∙◌}
use mathlib.Core.List.{List, [], ◌∷◌, ◌++◌, map, map-append, append_assoc, append-nil}
use Prim.Native.Nat.{ℕ, ◌+◌, ◌≤◌, ◌<◌}
use native.Mathlib.Omega.{arith}
use borrow.Author.Tests.{le-leb}
use lib.ListN.{length, get_or, drop, length-append, drop_of_length-le}
use Rattle.lists.proofs.Tests.{true-both}
use Rattle.frame.specs.Doc.{Doc, Token, doc_of, value_of}
use Rattle.rules.specs.declared.Place.TheVariants.{WholeStatement}
use Rattle.rules.specs.Rules.{many}
use Rattle.grammar.specs.Machine.{opened, grammar_fault}
use Rattle.grammar.specs.Inner.{from}
use Rattle.grammar.proofs.Laws.{from-nil}
use Rattle.schema.specs.Declarations.{statement_fault}
use Rattle.schema.specs.Effect.{writes}
use Rattle.written.specs.Written.{text_in, sizes_in, written, within_limits}
use Rattle.written.proofs.Bytes.{written-length}
use Rattle.moving.proofs.Reading.{next-same}
use Rattle.join.specs.Join.{numbered_after, joined, join_statements}
use Rattle.join.proofs.Documents.{numbered-none, all-twice, joined-tokens, joined-names, joined-text}
use Rattle.join.proofs.Stated.{few-of, faultless, some-token}
use Rattle.join_marks.proofs.Accepted.{clauses, Statement, is-statement}
use Rattle.join_marks.proofs.Sheets.{joined-sheet, written-joined}
use Rattle.std.specs.Prelude.{None}

-- ---- documents
-- Joining is associative
pub joined-assoc : (a b c : Doc) → joined (joined a b) c ≡ joined a (joined b c)
unfolding joined
joined-assoc a b c =
    let m = length a.names in
    let n = length b.names in
    let as' = drop 1 a.tokens in
    let bs = map (numbered_after m) (drop 1 b.tokens) in
    let cs = drop 1 c.tokens in
    let v : value_of a 0 + value_of b 0 + value_of c 0 ≡ value_of a 0 + (value_of b 0 + value_of c 0) = omega arith in
    let l : map (numbered_after (length (a.names ++ b.names))) cs ≡ map (numbered_after m) (map (numbered_after n) cs) =
    ap (λ (k : ℕ). map (numbered_after k) cs) (length-append a.names b.names) ∙ sym (all-twice m n cs) in
    let t : as' ++ bs ++ map (numbered_after (length (a.names ++ b.names))) cs
    ≡ as' ++ map (numbered_after m) (drop 1 b.tokens ++ map (numbered_after n) cs) =
    append_assoc as' bs (map (numbered_after (length (a.names ++ b.names))) cs)
    ∙ ap (λ (ts : List Token). as' ++ ts)
    (ap (λ (ts : List Token). bs ++ ts) l
    ∙ sym (map-append (numbered_after m) (drop 1 b.tokens) (map (numbered_after n) cs))) in
    λ i. record {
      tokens = record { kind = 90; value = v i } ∷ t i;
      names = append_assoc a.names b.names c.names i;
    }

-- ---- sheets
-- Of three sheets, where both ways are written, the same bytes are
pub joined-either-way : (x y z o₁ o₂ o₃ o₄ xy yz l r : List ℕ) (n₁ n₂ n₃ n₄ : ℕ)
    → join_statements x y o₁ ≡ writes n₁ xy → join_statements xy z o₂ ≡ writes n₂ l
    → join_statements y z o₃ ≡ writes n₃ yz → join_statements x yz o₄ ≡ writes n₄ r → l ≡ r
joined-either-way x y z o₁ o₂ o₃ o₄ xy yz l r n₁ n₂ n₃ n₄ e f g h =
    (joined-sheet xy z o₂ n₂ l f).bytes
    ∙ ap (λ (d : Doc). written (joined d (doc_of z))) (joined-sheet x y o₁ n₁ xy e).holds
    ∙ ap written (joined-assoc (doc_of x) (doc_of y) (doc_of z))
    ∙ ap (λ (d : Doc). written (joined (doc_of x) d)) (sym (joined-sheet y z o₃ n₃ yz g).holds)
    ∙ sym (joined-sheet x yz o₄ n₄ r h).bytes

-- one document has no more tokens, names and text than another
record Less (d e : Doc) : Type 0 where
  pub tokens : length d.tokens ≤ length e.tokens
  pub names : length d.names ≤ length e.names
  pub text : length (text_in d.names) ≤ length (text_in e.names)

-- then it passes no limit that the other does not
less-within : (d e : Doc) → Less d e → within_limits e ≡ true → within_limits d ≡ true
less-within d e s w =
    let l = few-of (sizes_in e) w in
    true-both (le-leb (length d.tokens) _ (omega (arith, s.tokens, l.tokens)))
    (true-both (le-leb (length d.names) _ (omega (arith, s.names, l.names)))
    (le-leb (length (text_in d.names)) _ (omega (arith, s.text, l.text))))

-- and its bytes are no more
less-bytes : (d e : Doc) → Less d e → length (written d) ≤ length (written e)
less-bytes d e s = omega (arith, written-length d, written-length e, s.tokens, s.names, s.text)

-- the first of two that are joined
less-first : (a b : Doc) → 0 < length a.tokens → 0 < length b.tokens → Less a (joined a b)
less-first a b p q = record {
  tokens = omega (arith, joined-tokens a b p q);
  names = omega (arith, joined-names a b);
  text = omega (arith, joined-text a b);
}

-- the second of two that are joined
less-second : (a b : Doc) → 0 < length a.tokens → 0 < length b.tokens → Less b (joined a b)
less-second a b p q = record {
  tokens = omega (arith, joined-tokens a b p q);
  names = omega (arith, joined-names a b);
  text = omega (arith, joined-text a b);
}

-- two sheets joined, into a buffer with room
joined-into : (x y out : List ℕ) (d : Doc) → statement_fault x ≡ None → statement_fault y ≡ None
    → joined (doc_of x) (doc_of y) ≡ d → within_limits d ≡ true → length (written d) ≤ length out
    → join_statements x y out ≡ writes (length (written d)) (written d)
joined-into x y out d hx hy e w l =
    written-joined x y hx hy out (rw e w) (rw e l) ∙ ap (λ (f : Doc). writes (length (written f)) (written f)) e

-- Where the first way is written, so is the second, into buffers that have room for the whole: the same bytes
pub joined-right-too : (x y z o₁ o₂ o₃ o₄ xy l : List ℕ) (n₁ n₂ : ℕ) → join_statements x y o₁ ≡ writes n₁ xy
    → join_statements xy z o₂ ≡ writes n₂ l → length l ≤ length o₃ → length l ≤ length o₄
    → (yz : List ℕ) × (join_statements y z o₃ ≡ writes (length yz) yz) × (join_statements x yz o₄ ≡ writes n₂ l)
joined-right-too x y z o₁ o₂ o₃ o₄ xy l n₁ n₂ e f p q =
    let s = joined-sheet x y o₁ n₁ xy e in
    let t = joined-sheet xy z o₂ n₂ l f in
    let a = doc_of x in
    let b = doc_of y in
    let c = doc_of z in
    let rb = faultless y s.second in
    let rc = faultless z t.second in
    let whole : joined (doc_of xy) c ≡ joined a (joined b c) =
    ap (λ (d : Doc). joined d c) s.holds ∙ joined-assoc a b c in
    let w : within_limits (joined a (joined b c)) ≡ true = rw whole at t.within in
    let bytes : l ≡ written (joined a (joined b c)) = t.bytes ∙ ap written whole in
    let some : 0 < length (joined b c).tokens =
    omega (arith, joined-tokens b c (some-token rb) (some-token rc), some-token rb, some-token rc) in
    let less = less-second a (joined b c) (some-token (faultless x s.first)) some in
    let long : length l ≡ length (written (joined a (joined b c))) = ap length bytes in
    let g = joined-into y z o₃ (joined b c) s.second t.second refl (less-within (joined b c) _ less w)
    (omega (arith, less-bytes (joined b c) _ less, long)) in
    let u = joined-sheet y z o₃ _ (written (joined b c)) g in
    let h = joined-into x (written (joined b c)) o₄ (joined a (joined b c)) s.first u.no_fault
    (ap (joined a) u.holds) w (omega (arith, long)) in (
      written (joined b c),
      g,
      h ∙ ap (λ (k : List ℕ). writes (length k) k) (sym bytes) ∙ ap (λ (k : ℕ). writes k l) (sym t.count),
    )

-- Where the second way is written, so is the first, into buffers that have room for the whole: the same bytes
pub joined-left-too : (x y z o₁ o₂ o₃ o₄ yz r : List ℕ) (n₃ n₄ : ℕ) → join_statements y z o₃ ≡ writes n₃ yz
    → join_statements x yz o₄ ≡ writes n₄ r → length r ≤ length o₁ → length r ≤ length o₂
    → (xy : List ℕ) × (join_statements x y o₁ ≡ writes (length xy) xy) × (join_statements xy z o₂ ≡ writes n₄ r)
joined-left-too x y z o₁ o₂ o₃ o₄ yz r n₃ n₄ e f p q =
    let s = joined-sheet y z o₃ n₃ yz e in
    let t = joined-sheet x yz o₄ n₄ r f in
    let a = doc_of x in
    let b = doc_of y in
    let c = doc_of z in
    let ra = faultless x t.first in
    let rb = faultless y s.first in
    let whole : joined a (doc_of yz) ≡ joined (joined a b) c =
    ap (joined a) s.holds ∙ sym (joined-assoc a b c) in
    let w : within_limits (joined (joined a b) c) ≡ true = rw whole at t.within in
    let bytes : r ≡ written (joined (joined a b) c) = t.bytes ∙ ap written whole in
    let some : 0 < length (joined a b).tokens =
    omega (arith, joined-tokens a b (some-token ra) (some-token rb), some-token ra, some-token rb) in
    let less = less-first (joined a b) c some (some-token (faultless z s.second)) in
    let long : length r ≡ length (written (joined (joined a b) c)) = ap length bytes in
    let g = joined-into x y o₁ (joined a b) t.first s.first refl (less-within (joined a b) _ less w)
    (omega (arith, less-bytes (joined a b) _ less, long)) in
    let u = joined-sheet x y o₁ _ (written (joined a b)) g in
    let h = joined-into (written (joined a b)) z o₂ (joined (joined a b) c) u.no_fault s.second
    (ap (λ (d : Doc). joined d c) u.holds) w (omega (arith, long)) in (
      written (joined a b),
      g,
      h ∙ ap (λ (k : List ℕ). writes (length k) k) (sym bytes) ∙ ap (λ (k : ℕ). writes k r) (sym t.count),
    )

-- ---- a statement without clauses
-- a token of a kind and a value
abbrev token : ℕ → ℕ → Token
token k v = record { kind = k; value = v }

-- a list of tokens that is not empty: its first, and the others
first-and-rest : (ts : List Token) (d : Token) → 0 < length ts → ts ≡ get_or ts 0 d ∷ drop 1 ts
first-and-rest [] d h = absurd (omega arith)
first-and-rest (t ∷ ts) d h = refl

module _ {a : Doc} (s : Statement a) where
  -- a statement's tokens are its Statement token and the others
  statement-tokens : a.tokens ≡ token 90 (value_of a 0) ∷ drop 1 a.tokens
  statement-tokens =
      first-and-rest a.tokens (token 0 0) s.some
      ∙ ap (λ (k : ℕ). token k (value_of a 0) ∷ drop 1 a.tokens) s.root

  -- without clauses it has one token
  one_token : value_of a 0 ≡ 0 → 1 ≡ length a.tokens
  unfolding opened many
  one_token e =
      next-same 1 (length a.tokens) (sym (from-nil a 1) ∙ ap (λ (v : ℕ). from a 1 (clauses v)) (sym e) ∙ s.reads)

  -- and none behind it
  none-behind : value_of a 0 ≡ 0 → drop 1 a.tokens ≡ []
  none-behind e = let h : length a.tokens ≤ 1 = omega (arith, one_token e) in drop_of_length-le a.tokens h

-- A statement of no clauses is the one Statement token
pub none-alone : (e : Doc) → grammar_fault WholeStatement e ≡ None → value_of e 0 ≡ 0 → e.tokens ≡ token 90 0 ∷ []
none-alone e h z =
    let s = is-statement e h in
    statement-tokens s ∙ (λ i. token 90 (z i) ∷ none-behind s z i)

-- Joined as the second, it adds no token
pub none-second : (a e : Doc) → grammar_fault WholeStatement a ≡ None → grammar_fault WholeStatement e ≡ None
    → value_of e 0 ≡ 0 → (joined a e).tokens ≡ a.tokens
unfolding joined
none-second a e ha he z =
    let v : value_of a 0 + value_of e 0 ≡ value_of a 0 = omega (arith, z) in
    let t : drop 1 a.tokens ++ map (numbered_after (length a.names)) (drop 1 e.tokens) ≡ drop 1 a.tokens =
    ap (λ (ts : List Token). drop 1 a.tokens ++ map (numbered_after (length a.names)) ts)
    (none-behind (is-statement e he) z)
    ∙ append-nil (drop 1 a.tokens) in
    (λ i. token 90 (v i) ∷ t i) ∙ sym (statement-tokens (is-statement a ha))

-- Joined as the first, it leaves the tokens of the second, with Names numbered after its names
pub none_first : (e b : Doc) → grammar_fault WholeStatement e ≡ None → grammar_fault WholeStatement b ≡ None
    → value_of e 0 ≡ 0 → (joined e b).tokens ≡ map (numbered_after (length e.names)) b.tokens
unfolding joined
none_first e b he hb z =
    let m = length e.names in
    let v : value_of e 0 + value_of b 0 ≡ value_of b 0 = omega (arith, z) in
    let bs = map (numbered_after m) (drop 1 b.tokens) in
    let t : drop 1 e.tokens ++ bs ≡ bs = ap (λ (ts : List Token). ts ++ bs) (none-behind (is-statement e he) z) in
    (λ i. token 90 (v i) ∷ t i) ∙ ap (map (numbered_after m)) (sym (statement-tokens (is-statement b hb)))

-- the names of both
names-joined : (a b : Doc) → (joined a b).names ≡ a.names ++ b.names
unfolding joined
names-joined a b = refl

-- Without clauses and names, it adds nothing as the second
pub nothing-second : (a e : Doc) → grammar_fault WholeStatement a ≡ None → grammar_fault WholeStatement e ≡ None
    → value_of e 0 ≡ 0 → e.names ≡ [] → joined a e ≡ a
nothing-second a e ha he z n =
    let t = none-second a e ha he z in
    let m : (joined a e).names ≡ a.names =
    names-joined a e ∙ ap (λ (ns : List (List ℕ)). a.names ++ ns) n ∙ append-nil a.names in
    λ i. record { tokens = t i; names = m i }

-- Without clauses and names, it adds nothing as the first
pub nothing-first : (e b : Doc) → grammar_fault WholeStatement e ≡ None → grammar_fault WholeStatement b ≡ None
    → value_of e 0 ≡ 0 → e.names ≡ [] → joined e b ≡ b
nothing-first e b he hb z n =
    let t : (joined e b).tokens ≡ b.tokens =
    none_first e b he hb z
    ∙ ap (λ (ns : List (List ℕ)). map (numbered_after (length ns)) b.tokens) n ∙ numbered-none b.tokens in
    let m : (joined e b).names ≡ b.names =
    names-joined e b ∙ ap (λ (ns : List (List ℕ)). ns ++ b.names) n in
    λ i. record { tokens = t i; names = m i }

-- A sheet joined with one of no clauses and no names keeps its document
pub unchanged-second : (x y out : List ℕ) (n : ℕ) (xs : List ℕ) → join_statements x y out ≡ writes n xs
    → value_of (doc_of y) 0 ≡ 0 → (doc_of y).names ≡ [] → doc_of xs ≡ doc_of x
unchanged-second x y out n xs e z m =
    let s = joined-sheet x y out n xs e in
    s.holds ∙ nothing-second (doc_of x) (doc_of y) (faultless x s.first).read (faultless y s.second).read z m

-- A sheet joined behind one of no clauses and no names gives its own document
pub unchanged-first : (x y out : List ℕ) (n : ℕ) (xs : List ℕ) → join_statements x y out ≡ writes n xs
    → value_of (doc_of x) 0 ≡ 0 → (doc_of x).names ≡ [] → doc_of xs ≡ doc_of y
unchanged-first x y out n xs e z m =
    let s = joined-sheet x y out n xs e in
    s.holds ∙ nothing-first (doc_of x) (doc_of y) (faultless x s.first).read (faultless y s.second).read z m
