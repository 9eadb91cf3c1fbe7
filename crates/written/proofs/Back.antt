-- A document's bytes are a sheet without fault, and it reads as the document.
use mathlib.Core.Path.{◌≡◌, refl, sym, ap, ◌∙◌}
use mathlib.Core.List.{List, [], ◌∷◌, ◌++◌, map}
use mathlib.Core.Bool.{Bool, false}
use Prim.Native.Nat.{ℕ, zero, suc, ◌+◌, ◌-◌, ◌*◌, ◌%◌, ◌≤◌, ◌<◌}
use native.Mathlib.Nat.{mod-eq_of_lt}
use native.Mathlib.Omega.{arith}
use borrow.Author.Tests.{le-ltb, le-leb, lt-leb, eq-eqb}
use lib.Dec.{leb}
use lib.ListN.{length, get_or, drop, length-map, get_or-append, get_or-map}
use lib.Seq.{get_or-append-add, drop-append-add, ext_get_or}
use Rattle.lists.specs.Lists.{pick, table, each}
use Rattle.lists.proofs.Laws.{table-length, table_at}
use Rattle.endian.specs.Endian.{u32_at, u32_of}
use Rattle.endian.proofs.Laws.{u32-is, u32-skip}
use Rattle.frame.specs.Limits.{max_tokens, max_names, max_text}
use Rattle.frame.specs.Sheet.{top_bit, is_thin, end_width, sheet_of, in_range, kinds_at, values_at, ends_at, text_behind, bytes_by}
use Rattle.frame.specs.Sheet.{end_of, start_of, part_of, name_at, end_fault, name_fault, sized_fault, frame_fault}
use Rattle.frame.specs.Doc.{Doc, Token, token_at, doc_as, doc_of, kind_of, value_of, name_of}
use Rattle.frame.specs.declared.Sheet.{Sheet}
use Rattle.frame.proofs.Laws.{unmarked, end-wide}
use Rattle.written.specs.Written.{u32s, text_in, ends_from, sizes_in, kind_bytes, value_bytes, written, Fits}
use Rattle.written.proofs.Bytes.{u32s-length, kinds-length, values_length, ends-length, parts_of, parts-length}
use Rattle.written.proofs.Names.{reach, ends-at, reach-more, reach-most, reach-all, name_in}
use Rattle.written.proofs.Numbers.{Skips, past, numbers-length, number_at}
use Rattle.std.specs.Prelude.{None}

-- number i of several u32
u32s-at : (ns q : List ℕ) (i : ℕ) → i < length ns → get_or ns i 0 < 4294967296
    → u32_at (u32s ns ++ q) (4 * i) ≡ get_or ns i 0
u32s-at = number_at 4 u32_of (λ n. refl) 4294967296 u32_at u32-skip u32-is

-- ---- a list by its elements
table_is : {A : Type 0} (g : ℕ → A) (l : List A) (d : A) → ((i : ℕ) → i < length l → g i ≡ get_or l i d)
    → table g 0 (length l) ≡ l
table_is g l d h =
    ext_get_or d (table g 0 (length l)) l (table-length g 0 (length l))
    (λ i b. let k : i < length l = omega (arith, table-length g 0 (length l)) in table_at g (length l) i d k ∙ h i k)

-- ---- a sheet by its parts: twelve bytes, the tokens, the bytes of the ends, the text
abbrev pub laid : List ℕ → List ℕ → Doc → List ℕ
laid head ends d = parts_of head d.tokens ends (text_in d.names)

-- its sizes are the document's, and each end is where a name's text stops
pub record Layout (head ends : List ℕ) (d : Doc) : Type 0 where
  pub twelve : length head ≡ 12
  pub sizes : sheet_of (laid head ends d) ≡ sizes_in d
  pub ends_size : length ends ≡ end_width (laid head ends d) * length d.names
  pub each_end : (k : ℕ) → k < length d.names
      → end_of (laid head ends d) (sizes_in d) k ≡ reach d.names (suc k)

module _ (head ends : List ℕ) (d : Doc) (twelve : length head ≡ 12) where
  -- behind the sizes, behind the kinds, behind the values
  pub from-kinds : {A : Type 0} (g : List ℕ → ℕ → A) → Skips g → (at k : ℕ) → at ≡ 12 + k
      → g (laid head ends d) at ≡ g (kind_bytes d.tokens ++ (value_bytes d.tokens ++ (ends ++ text_in d.names))) k
  from-kinds g h at k e = past g h head _ at k (omega (arith, twelve))

  from-values : {A : Type 0} (g : List ℕ → ℕ → A) → Skips g → (at k : ℕ) → at ≡ 12 + length d.tokens + k
      → g (laid head ends d) at ≡ g (value_bytes d.tokens ++ (ends ++ text_in d.names)) k
  from-values g h at k e =
      from-kinds g h at (length d.tokens + k) (omega arith)
      ∙ past g h (kind_bytes d.tokens) _ _ k (omega (arith, kinds-length d.tokens))

  pub from-ends : {A : Type 0} (g : List ℕ → ℕ → A) → Skips g → (at k : ℕ) → at ≡ ends_at (sizes_in d) + k
      → g (laid head ends d) at ≡ g (ends ++ text_in d.names) k
  from-ends g h at k e =
      from-values g h at (4 * length d.tokens + k) (omega arith)
      ∙ past g h (value_bytes d.tokens) _ _ k (omega (arith, values_length d.tokens))

module _ (head ends : List ℕ) (d : Doc) (z : Layout head ends d) (ok : Fits d) where
  abbrev T : ℕ
  T = length d.tokens

  abbrev M : ℕ
  M = length d.names

  abbrev sheet : Sheet
  sheet = sizes_in d

  abbrev bytes : List ℕ
  bytes = laid head ends d

  abbrev values : List ℕ
  values = map (λ (t : Token). t.value) d.tokens

  kind_at : (i : ℕ) → i < T → get_or bytes (kinds_at sheet + i) 0 ≡ kind_of d i
  kind_at i h =
      from-kinds head ends d z.twelve (λ l n. get_or l n 0) (λ p q k. get_or-append-add p q k 0) (12 + i) i refl
      ∙ get_or-append (kind_bytes d.tokens) _ 0 i (omega (arith, kinds-length d.tokens))
      ∙ get_or-map (λ (t : Token). t.kind) d.tokens i (record { kind = 0; value = 0 })

  value-at : (i : ℕ) → i < T → u32_at bytes (values_at sheet + 4 * i) ≡ value_of d i
  value-at i h =
      let e : get_or values i 0 ≡ value_of d i =
      get_or-map (λ (t : Token). t.value) d.tokens i (record { kind = 0; value = 0 }) in
      from-values head ends d z.twelve u32_at u32-skip (12 + T + 4 * i) (4 * i) refl
      ∙ u32s-at values _ i (omega (arith, length-map d.tokens (λ (t : Token). t.value)))
      (omega (arith, ok.values i h, e))
      ∙ e

  start-at : (k : ℕ) → k ≤ M → start_of bytes sheet k ≡ reach d.names k
  unfolding start_of each
  start-at zero h = refl
  start-at (suc k) h = z.each_end k h

  text_at : (k : ℕ) → drop (text_behind (end_width bytes) sheet + k) bytes ≡ drop k (text_in d.names)
  text_at k =
      let at : ℕ = text_behind (end_width bytes) sheet + k in
      from-ends head ends d z.twelve (λ l n. drop n l) (λ p q n. drop-append-add p q n) at (end_width bytes * M + k)
      (omega arith)
      ∙ past (λ l n. drop n l) (λ p q n. drop-append-add p q n) ends (text_in d.names) (end_width bytes * M + k) k
      (omega (arith, z.ends_size))

  name-at : (k : ℕ) → k < M → name_at bytes sheet k ≡ name_of d k
  unfolding part_of
  name-at k h =
      let e : reach d.names (suc k) - reach d.names k ≡ length (get_or d.names k []) =
      omega (arith, reach-more d.names k h) in
      rw (start-at k (omega arith), z.each_end k h, text_at (reach d.names k), e) (name_in d.names k h)

  token-at : (i : ℕ) → i < T → token_at bytes sheet i ≡ get_or d.tokens i (record { kind = 0; value = 0 })
  token-at i h = λ j. record { kind = kind_at i h j; value = value-at i h j }

  pub doc-back : doc_of bytes ≡ d
  unfolding doc_of doc_as
  doc-back =
      let a = table_is (token_at bytes sheet) d.tokens (record { kind = 0; value = 0 }) token-at in
      let b = table_is (name_at bytes sheet) d.names [] name-at in
      ap (doc_as bytes) z.sizes ∙ (λ j. record { tokens = a j; names = b j })

  -- ---- no fault of its frame
  no-end-fault : (n k : ℕ) → k + n ≡ M → end_fault bytes sheet k n ≡ None
  unfolding end_fault
  no-end-fault zero k e =
      let b : k ≡ M = omega arith in
      let g : start_of bytes sheet k ≡ length (text_in d.names) = start-at k (omega arith) ∙ ap (reach d.names) b
      ∙ reach-all d.names in
      rw (g, le-ltb (length (text_in d.names)) (length (text_in d.names)) (omega arith))
  no-end-fault (suc n) k e =
      let h : k < M = omega arith in
      simp (
        start-at k (omega arith),
        z.each_end k h,
        le-ltb (reach d.names (suc k)) (reach d.names k) (omega (arith, reach-more d.names k h)),
        le-ltb (length (text_in d.names)) (reach d.names (suc k)) (reach-most d.names (suc k)),
        no-end-fault n (suc k) (omega arith),
      )

  no-name-fault : (n k : ℕ) → k + n ≡ M → name_fault bytes sheet k n ≡ None
  unfolding name_fault
  no-name-fault zero k e = refl
  no-name-fault (suc n) k e =
      let h : k < M = omega arith in
      rw (name-at k h, ok.named k h, no-name-fault n (suc k) (omega arith))

  pub no_fault : frame_fault bytes ≡ None
  unfolding frame_fault sized_fault in_range
  no_fault =
      let w : length bytes ≡ bytes_by (end_width bytes) sheet =
      omega (arith, parts-length head d.tokens ends (text_in d.names), z.twelve, z.ends_size) in
      simp (
        le-ltb (length bytes) 12 (omega (arith, w)),
        z.sizes,
        le-leb 1 T ok.some_tokens,
        le-leb T max_tokens ok.few_tokens,
        le-leb M max_names ok.few_names,
        le-leb (length (text_in d.names)) max_text ok.short_text,
        eq-eqb (length bytes) (bytes_by (end_width bytes) sheet) w,
        no-end-fault M 0 (omega arith),
        no-name-fault M 0 (omega arith),
      )

-- ---- ends of w bytes each, as the token count tells
-- the sizes, with a token count as it is written
abbrev pub counted_sizes : ℕ → Doc → List ℕ
counted_sizes count d = u32s (count ∷ length d.names ∷ length (text_in d.names) ∷ [])

-- that count is read first, whatever the ends
pub count-first : (count : ℕ) (ends : List ℕ) (d : Doc) → count < 4294967296
    → u32_at (laid (counted_sizes count d) ends d) 0 ≡ count
count-first count ends d h =
    u32s-at (count ∷ length d.names ∷ length (text_in d.names) ∷ []) _ 0 (omega arith) h

module _ (d : Doc) (ok : Fits d) (count w : ℕ) (put : ℕ → List ℕ) (read : List ℕ → ℕ → ℕ) where
  abbrev ends-put : List ℕ
  ends-put = each put (ends_from 0 d.names)

  abbrev counted : List ℕ
  counted = laid (counted_sizes count d) ends-put d

  size-read : (i : ℕ) → i < 3 → get_or (count ∷ length d.names ∷ length (text_in d.names) ∷ []) i 0 < 4294967296
      → u32_at counted (4 * i) ≡ get_or (count ∷ length d.names ∷ length (text_in d.names) ∷ []) i 0
  size-read i h g = u32s-at (count ∷ length d.names ∷ length (text_in d.names) ∷ []) _ i h g

  pub laid_by : ((n : ℕ) → length (put n) ≡ w) → Skips read
      → ((n : ℕ) (q : List ℕ) → n < 65536 → read (put n ++ q) 0 ≡ n) → count < 4294967296
      → count % top_bit ≡ length d.tokens → pick (leb top_bit count) 2 4 ≡ w
      → ((s : List ℕ) (f : Sheet) (k : ℕ) → u32_at s 0 ≡ count → end_of s f k ≡ read s (ends_at f + w * k))
      → Layout (counted_sizes count d) ends-put d
  unfolding sheet_of
  laid_by size skips is small low width end =
      let c : u32_at counted 0 ≡ count = count-first count ends-put d small in
      let t : u32_at counted 0 % top_bit ≡ length d.tokens = ap (λ (n : ℕ). n % top_bit) c ∙ low in
      let m : u32_at counted 4 ≡ length d.names = size-read 1 (omega arith) (omega (arith, ok.few_names)) in
      let b : u32_at counted 8 ≡ length (text_in d.names) =
      size-read 2 (omega arith) (omega (arith, ok.short_text)) in
      let v : w ≡ end_width counted = sym width ∙ ap (λ (n : ℕ). pick (leb top_bit n) 2 4) (sym c) in
      record {
        twelve = u32s-length (count ∷ length d.names ∷ length (text_in d.names) ∷ []);
        sizes = λ i. record { tokens = t i; names = m i; text = b i };
        ends_size =
            numbers-length w put size (ends_from 0 d.names) ∙ ap (λ (n : ℕ). w * n) (ends-length 0 d.names)
            ∙ ap (λ (n : ℕ). n * length d.names) v;
        each_end = λ k h.
            let e : get_or (ends_from 0 d.names) k 0 ≡ reach d.names (suc k) =
            ends-at d.names 0 k h ∙ omega arith in
            end counted (sizes_in d) k c
            ∙ from-ends (counted_sizes count d) ends-put d
            (u32s-length (count ∷ length d.names ∷ length (text_in d.names) ∷ [])) read skips
            (ends_at (sizes_in d) + w * k) (w * k) refl
            ∙ number_at w put size 65536 read skips is (ends_from 0 d.names) (text_in d.names) k
            (omega (arith, ends-length 0 d.names))
            (omega (arith, e, reach-most d.names (suc k), ok.short_text))
            ∙ e;
      }

  -- a sheet so laid out has no fault of its frame, and holds the document
  pub counted_back : Layout (counted_sizes count d) ends-put d → (frame_fault counted ≡ None) × (doc_of counted ≡ d)
  counted_back z =
      (no_fault (counted_sizes count d) ends-put d z ok, doc-back (counted_sizes count d) ends-put d z ok)

-- ends of four bytes, where the count has no top bit
wide-end : (s : List ℕ) (f : Sheet) (k c : ℕ) → u32_at s 0 ≡ c → c < top_bit → end_of s f k ≡ u32_at s (ends_at f + 4 * k)
wide-end s f k c e h = sym (end-wide s f false (unmarked s c (sym e) h) k refl)

-- the sheet has no fault of its frame, and holds the document
pub read_back : (d : Doc) → Fits d → (frame_fault (written d) ≡ None) × (doc_of (written d) ≡ d)
unfolding written
read_back d ok =
    let T : ℕ = length d.tokens in
    let o : T < top_bit = omega (arith, ok.few_tokens) in
    counted_back d ok T 4 u32_of u32_at
    (laid_by d ok T 4 u32_of u32_at (λ n. refl) u32-skip (λ n q h. u32-is n q (omega arith)) (omega arith) (mod-eq_of_lt o)
    (ap (λ (b : Bool). pick b 2 4) (lt-leb top_bit T o)) (λ s f k e. wide-end s f k T e o))

-- It is not marked as thin
pub written-unmarked : (d : Doc) → length d.tokens ≤ max_tokens → is_thin (written d) ≡ false
unfolding written
written-unmarked d h =
    let c : u32_at (written d) 0 ≡ length d.tokens =
    count-first (length d.tokens) (u32s (ends_from 0 d.names)) d (omega arith) in
    lt-leb top_bit (u32_at (written d) 0) (omega (arith, c))

-- two documents with the same bytes are one
pub written_apart : (d e : Doc) → Fits d → Fits e → written d ≡ written e → d ≡ e
written_apart d e p q h = sym (read_back d p).1 ∙ ap doc_of h ∙ (read_back e q).1
