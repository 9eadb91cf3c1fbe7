-- A sheet that is begun: what each piece adds, and the whole.
use mathlib.Core.Path.{◌≡◌, refl, sym, ap, ◌∙◌, subst}
use mathlib.Core.List.{List, [], ◌∷◌, ◌++◌, append_assoc, append-nil, map-append}
use Prim.Native.Nat.{ℕ, ◌+◌, ◌*◌, ◌≤◌, ◌<◌}
use native.Mathlib.Omega.{arith}
use lib.ListN.{length, set, drop, length-append, length-set}
use lib.Seq.{sets, length-sets, sets-eq}
use Rattle.lists.specs.Lists.{each}
use Rattle.lists.proofs.Joins.{each_append, each-one}
use Rattle.lists.proofs.Stores.{sets-join, sets-apart}
use Rattle.endian.specs.Endian.{u32_of}
use Rattle.frame.specs.Sheet.{kinds_at, values_at, ends_at, text_at, bytes_of}
use Rattle.frame.specs.Doc.{Doc, Token}
use Rattle.frame.specs.declared.Sheet.{Sheet}
use Rattle.written.specs.Written.{u32s, text_in, ends_from, sizes_in, size_bytes, kind_bytes, value_bytes, written}
use Rattle.written.specs.Inner.{filled, Begun, TokensPut, EndsPut, TextPut, NamesPut}
use Rattle.written.proofs.Bytes.{u32s-length, sizes-length, kinds-length, values_length, ends-length, parts_of, parts-length, written-length}

-- the same by other names
pub begun-as : {f : Sheet} {ts us : List Token} {es ds xs ys lent out : List ℕ} → ts ≡ us → es ≡ ds → xs ≡ ys
    → Begun f ts es xs lent out → Begun f us ds ys lent out
begun-as p q r h = rw (← p, ← q, ← r) h

-- ---- one more of several
u32s-more : (ns : List ℕ) (n : ℕ) → u32s (ns ++ (n ∷ [])) ≡ u32s ns ++ u32_of n
u32s-more ns n = rw (each_append, each-one)

kinds-more : (ts : List Token) (t : Token) → kind_bytes (ts ++ (t ∷ [])) ≡ kind_bytes ts ++ (t.kind ∷ [])
kinds-more ts t = map-append (λ (u : Token). u.kind) ts (t ∷ [])

values-more : (ts : List Token) (t : Token) → value_bytes (ts ++ (t ∷ [])) ≡ value_bytes ts ++ u32_of t.value
values-more ts t = ap u32s (map-append (λ (u : Token). u.value) ts (t ∷ [])) ∙ u32s-more _ t.value

-- ---- the sizes
pub sizes-put : (f : Sheet) (l a b l' : List ℕ) → bytes_of f ≤ length l → a ≡ sets l 0 (u32_of f.tokens)
    → b ≡ sets a 4 (u32_of f.names) → l' ≡ sets b 8 (u32_of f.text) → Begun f [] [] [] l l'
unfolding filled each
sizes-put f l a b l' h p q r =
    let s : l' ≡ filled f [] [] [] l = rw (r, q, p) in
    record {
      room = h;
      size = ap length s ∙ simp length-sets;
      tokens = omega arith;
      ends = omega arith;
      text = omega arith;
      buffer = s;
    }

-- ---- a token
module _ (f : Sheet) (l : List ℕ) (es xs : List ℕ) where
  -- a run before the ends and the text
  before-ends : (i : ℕ) (ys : List ℕ) → i + length ys ≤ ends_at f
      → sets (sets (sets l (ends_at f) (u32s es)) (text_at f) xs) i ys
      ≡ sets (sets (sets l i ys) (ends_at f) (u32s es)) (text_at f) xs
  before-ends i ys h =
      sets-apart (sets l (ends_at f) (u32s es)) i ys (text_at f) xs (omega arith)
      ∙ ap (λ (m : List ℕ). sets m (text_at f) xs) (sets-apart l i ys (ends_at f) (u32s es) h)

module _ (f : Sheet) (ts : List Token) (es xs lent : List ℕ) (t : Token) (i : ℕ) (e : i ≡ length ts)
    (h : i < f.tokens) where
  abbrev sized : List ℕ
  sized = sets lent 0 (size_bytes f)

  abbrev kinds : List ℕ
  kinds = sets sized (kinds_at f) (kind_bytes ts)

  tokens-more : sets (sets (sets kinds (values_at f) (value_bytes ts)) (12 + i) (t.kind ∷ [])) (12 + f.tokens + 4 * i)
      (u32_of t.value)
      ≡ sets (sets sized (kinds_at f) (kind_bytes (ts ++ (t ∷ [])))) (values_at f) (value_bytes (ts ++ (t ∷ [])))
  tokens-more =
      let n : 12 + i ≡ 12 + length (kind_bytes ts) = omega (arith, kinds-length ts) in
      let m : 12 + f.tokens + 4 * i ≡ 12 + f.tokens + length (value_bytes ts) = omega (arith, values_length ts) in
      ap (λ (o : List ℕ). sets o (12 + f.tokens + 4 * i) (u32_of t.value))
      (sets-apart kinds (12 + i) (t.kind ∷ []) (values_at f) (value_bytes ts) (omega arith))
      ∙ rw (
        n,
        m,
        kinds-more,
        values-more,
        sets-join sized 12 (kind_bytes ts) (t.kind ∷ []),
        sets-join _ (12 + f.tokens) (value_bytes ts) (u32_of t.value),
      )

  token-filled : sets (set (filled f ts es xs lent) (12 + i) t.kind) (12 + f.tokens + 4 * i) (u32_of t.value)
      ≡ filled f (ts ++ (t ∷ [])) es xs lent
  unfolding filled
  token-filled =
      ap (λ (o : List ℕ). sets o (12 + f.tokens + 4 * i) (u32_of t.value))
      (before-ends f (sets kinds (values_at f) (value_bytes ts)) es xs (12 + i) (t.kind ∷ []) (omega arith))
      ∙ before-ends f (sets (sets kinds (values_at f) (value_bytes ts)) (12 + i) (t.kind ∷ [])) es xs
      (12 + f.tokens + 4 * i) (u32_of t.value) (omega arith)
      ∙ ap (λ (o : List ℕ). sets (sets o (ends_at f) (u32s es)) (text_at f) xs) tokens-more

pub token-put : (f : Sheet) (i kind value : ℕ) (l l' : List ℕ) → i < f.tokens
    → l' ≡ sets (set l (12 + i) kind) (12 + f.tokens + 4 * i) (u32_of value)
    → TokensPut f i (record { kind = kind; value = value } ∷ []) l l'
token-put f i kind value l l' h q = record {
  adds = λ {ts} {es} {xs} {lent} b e. record {
    room = b.room;
    size = ap length q ∙ simp (length-sets, length-set) b.size;
    tokens = omega (arith, length-append ts (record { kind = kind; value = value } ∷ []));
    ends = b.ends;
    text = b.text;
    buffer = q ∙ rw b.buffer (token-filled f ts es xs lent (record { kind = kind; value = value }) i e h);
  };
}

-- ---- the end of a name
end-filled : (f : Sheet) (ts : List Token) (es xs lent : List ℕ) (k end : ℕ) → k ≡ length es → k < f.names
    → sets (filled f ts es xs lent) (12 + 5 * f.tokens + 4 * k) (u32_of end) ≡ filled f ts (es ++ (end ∷ [])) xs lent
unfolding filled
end-filled f ts es xs lent k end e h =
    let n : 12 + 5 * f.tokens + 4 * k ≡ 12 + 5 * f.tokens + length (u32s es) = omega (arith, u32s-length es) in
    sets-apart _ (12 + 5 * f.tokens + 4 * k) (u32_of end) (text_at f) xs (omega arith)
    ∙ rw (n, u32s-more, sets-join _ (12 + 5 * f.tokens) (u32s es) (u32_of end))

pub end-put : (f : Sheet) (k end : ℕ) (l l' : List ℕ) → k < f.names
    → l' ≡ sets l (12 + 5 * f.tokens + 4 * k) (u32_of end) → EndsPut f k (end ∷ []) l l'
end-put f k end l l' h q = record {
  adds = λ {ts} {es} {xs} {lent} b e. record {
    room = b.room;
    size = ap length q ∙ simp length-sets b.size;
    tokens = b.tokens;
    ends = omega (arith, length-append es (end ∷ []));
    text = b.text;
    buffer = q ∙ rw b.buffer (end-filled f ts es xs lent k end e h);
  };
}

-- ---- a piece of the text
text-filled : (f : Sheet) (ts : List Token) (es xs lent : List ℕ) (at : ℕ) (piece : List ℕ) → at ≡ length xs
    → sets (filled f ts es xs lent) (text_at f + at) piece ≡ filled f ts es (xs ++ piece) lent
unfolding filled
text-filled f ts es xs lent at piece e = rw (e, sets-join _ (text_at f) xs piece)

pub text-put : (f : Sheet) (at from : ℕ) (piece l l' : List ℕ) → from ≡ text_at f + at → at + length piece ≤ f.text
    → l' ≡ sets l from piece → TextPut f at piece l l'
text-put f at from piece l l' g h q = record {
  adds = λ {ts} {es} {xs} {lent} b e. record {
    room = b.room;
    size = ap length q ∙ simp length-sets b.size;
    tokens = b.tokens;
    ends = b.ends;
    text = omega (arith, length-append xs piece);
    buffer = q ∙ rw (g, b.buffer) (text-filled f ts es xs lent at piece e);
  };
}

-- ---- several pieces, one after the other
module _ {f : Sheet} where
  pub tokens_none : {i : ℕ} {l : List ℕ} → TokensPut f i [] l l
  tokens_none = record { adds = λ {ts} b e. begun-as (sym (append-nil ts)) refl refl b }

  pub tokens-join : {i j : ℕ} {us vs : List Token} {l m o : List ℕ} → TokensPut f i us l m → j ≡ i + length us
      → TokensPut f j vs m o → TokensPut f i (us ++ vs) l o
  tokens-join {i} {j} {us} {vs} p e q = record {
    adds = λ {ts} b g. begun-as (append_assoc ts us vs) refl refl
        (q.adds (p.adds b g) (omega (arith, length-append ts us)));
  }

  pub ends-none : {k : ℕ} {l : List ℕ} → EndsPut f k [] l l
  ends-none = record { adds = λ {ts} {es} b e. begun-as refl (sym (append-nil es)) refl b }

  pub ends_join : {k j : ℕ} {cs ds l m o : List ℕ} → EndsPut f k cs l m → j ≡ k + length cs → EndsPut f j ds m o
      → EndsPut f k (cs ++ ds) l o
  ends_join {k} {j} {cs} {ds} p e q = record {
    adds = λ {ts} {es} b g. begun-as refl (append_assoc es cs ds) refl
        (q.adds (p.adds b g) (omega (arith, length-append es cs)));
  }

  pub text-none : {at : ℕ} {l : List ℕ} → TextPut f at [] l l
  text-none = record { adds = λ {ts} {es} {xs} b e. begun-as refl refl (sym (append-nil xs)) b }

  pub text-join : {at j : ℕ} {ys zs l m o : List ℕ} → TextPut f at ys l m → j ≡ at + length ys → TextPut f j zs m o
      → TextPut f at (ys ++ zs) l o
  text-join {at} {j} {ys} {zs} p e q = record {
    adds = λ {ts} {es} {xs} b g. begun-as refl refl (append_assoc xs ys zs)
        (q.adds (p.adds b g) (omega (arith, length-append xs ys)));
  }

-- ---- names: an end and a text each
pub names-none : {f : Sheet} {k at : ℕ} {l : List ℕ} → NamesPut f k [] at [] l l
names-none = record {
  adds = λ {ends = es} {text = xs} b p q. begun-as refl (sym (append-nil es)) (sym (append-nil xs)) b;
}

pub names-join : {f : Sheet} {k j at to : ℕ} {ds es xs ys l m o : List ℕ} → NamesPut f k ds at xs l m
    → j ≡ k + length ds → to ≡ at + length xs → NamesPut f j es to ys m o → NamesPut f k (ds ++ es) at (xs ++ ys) l o
names-join {ds = ds} {es = es} {xs = xs} {ys = ys} p g h q = record {
  adds = λ {ends = bs} {text = cs} b u v.
      begun-as refl (append_assoc bs ds es) (append_assoc cs xs ys)
      (q.adds (p.adds b u v) (omega (arith, length-append bs ds)) (omega (arith, length-append cs xs)));
}

pub names-one : {f : Sheet} {k at : ℕ} {es xs l m o : List ℕ} → TextPut f at xs l m → EndsPut f k es m o
    → NamesPut f k es at xs l o
names-one p q = record { adds = λ b u v. q.adds (p.adds b v) u }

-- ---- the whole
behind : (l : List ℕ) (i : ℕ) (xs : List ℕ) (j : ℕ) (ys : List ℕ) → j ≡ i + length xs
    → sets l i (xs ++ ys) ≡ sets (sets l i xs) j ys
behind l i xs j ys e = rw e (sets-join l i xs ys)

-- the parts of a sheet that has all of them, and behind it what was lent
module _ (f : Sheet) (ts : List Token) (es xs lent : List ℕ) (all-tokens : length ts ≡ f.tokens)
    (all-ends : length es ≡ f.names) (all-text : length xs ≡ f.text) where
  abbrev sheet : List ℕ
  sheet = parts_of (size_bytes f) ts (u32s es) xs

  all-filled : sets lent 0 sheet ≡ filled f ts es xs lent
  unfolding filled
  all-filled =
      behind lent 0 (size_bytes f) 12 _ (omega (arith, sizes-length f))
      ∙ behind _ 12 (kind_bytes ts) (values_at f) _ (omega (arith, kinds-length ts))
      ∙ behind _ _ (value_bytes ts) (ends_at f) _ (omega (arith, values_length ts))
      ∙ behind _ _ (u32s es) (text_at f) xs (omega (arith, u32s-length es))

  sheet-length : 0 + length sheet ≡ bytes_of f
  sheet-length = omega (arith, parts-length (size_bytes f) ts (u32s es) xs, sizes-length f, u32s-length es)

  pub whole : {out : List ℕ} → Begun f ts es xs lent out → out ≡ sheet ++ drop (bytes_of f) lent
  whole b =
      b.buffer
      ∙ sym all-filled
      ∙ sets-eq sheet lent 0 (omega (arith, sheet-length, b.room))
      ∙ ap (λ (n : ℕ). sheet ++ drop n lent) sheet-length

-- a sheet that has all of a document is the document's
pub finished : (d : Doc) {f : Sheet} {lent out : List ℕ} → f ≡ sizes_in d
    → Begun f d.tokens (ends_from 0 d.names) (text_in d.names) lent out
    → out ≡ written d ++ drop (length (written d)) lent
unfolding written
finished d {f} {lent} {out} e b =
    let c : Begun (sizes_in d) d.tokens (ends_from 0 d.names) (text_in d.names) lent out =
    subst (λ (g : Sheet). Begun g d.tokens (ends_from 0 d.names) (text_in d.names) lent out) e b in
    whole (sizes_in d) d.tokens (ends_from 0 d.names) (text_in d.names) lent refl (ends-length 0 d.names) refl c
    ∙ ap (λ (n : ℕ). written d ++ drop n lent) (sym (written-length d))
