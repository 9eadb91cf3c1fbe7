-- A reader in a local is lent to `next`, and comes back one step further: `next(&mut reader)`, for a proof by hand.
--     to-next        what `next`'s triple binds outside, at the lifetimes of the loan and of the sheet, κ
--     lends          the local, what it owns and κ's token ⊢ ⇛ ∃ ν γ. what `next` asks ∗ the lender's part
--     comes_back     what `next` promises ∗ the lender's part ⊢ ⇛ ∃ t. the step t ∗ the same, one step further
-- The loan's lifetime is the meet of κ and of an atom ν that is made for the call; half of κ's token goes into the
-- meet's.
use mathlib.Core.Path.{◌≡◌, refl}
use Prim.Native.Nat.{ℕ}
use mathlib.Core.List.{List, [], ◌∷◌}
use seplogic.Ra.Ura.{Ura}
use base.Share
use base.Fraction.{full_share}
use mir.Syntax.{named, erased}
use mir.Val.{Val, vptr}
use base.Logic.{SProp, ent, sep, wand, ex, id⊢, apply∗}
use base.Fml.{GName, Lft, Share, Fml, ftrue, fsep, fat, flft, fdead, fres, flent}
use prog.Memory.{Memory}
use prog.Routine.{Routine}
use types.Logic.{Logic, sem}
use contract.BorrowLft.{meet_⊑_left, meet_⊑_right}
use contract.Monad.{Fun, fact}
use types.Kit.{‵, raw, ◌⊛◌, ⋆, some, later, ◌$◌, ◌∵◌, !, qed, move, keep, drop, use1, use2, use3, split, join, pick, rewrite, fsplit, fjoin, fpick, fpack, frame, await, updating, now as at_once, show, done}
use types.SemTy.{Body}
use types.Tokens.{lft_new, lft_end}
use denote.RattleType.{RattleType}
use denote.Laws.{Is, shows}
use denote.Lend.{lends_ref, ref_back}
use denote.Memory.{mem, cell_at, part_of}
use denote.Ref.{MutBor, MutRef}
use denote.Steps.{heard, nothing}
use denote.Struct.Declared.{Declared}
use denote.Struct.Laws as LL
use denote.Struct.Steps.{spelt}
use denote.Triple.Clauses.{ensured, lasts}
use denote.Triple.Spec.{triple_of}
use denote.Triple.Statement.{Contract}
use denote.Triple.Walked.{says}
use Rattle.frame.specs.Doc.{doc_of}
use Rattle.frame.specs.Inner.{Sound}
use Rattle.token_reader.specs.Steps.{step_at, moved}
use Rattle.token_reader.specs.declared.TokenReader.{TokenReader}
use Rattle.token_reader.specs.declared.Token.{Token}
use Rattle.token_reader.specs.contracts.TokenReader as T
use Rattle.token_reader.proofs.TokenReader.TheLaws as T'
use Rattle.token_reader.specs.contracts.Token as S
use Rattle.std.specs.contracts.option.Option as O
use Rattle.token_reader.specs.contracts.next as next
use Rattle.std.specs.Prelude.{Option}

module _ {M : Type 1} {𝓤 : Ura M} (𝓛 : Logic 𝓤) (mem' : Memory → SProp 𝓤) (run : Routine → Fun 𝓤) where
  open 𝓛 use {H, A}

  abbrev pub Next : Contract 𝓤
  Next = triple_of 𝓛 next.signature (next.spec 𝓛 mem' run)

  -- of a reader h in the block l
  module _ (κ : Lft) (q : Share) (l : ℕ) where
    abbrev B : RattleType
    B = T.the_row (record { mir = named 1; lft = κ })

    abbrev D : Declared
    D = T.the_type (record { mir = named 1; lft = κ })

    abbrev L : LL.Laws D
    L = T'.the_laws (record { mir = named 1; lft = κ })

    -- the halves of κ's share
    abbrev q₁ : Share
    q₁ = Share.left q

    abbrev q₂ : Share
    q₂ = Share.right q

    abbrev ref : GName → TokenReader → MutBor TokenReader
    ref γ h = record { ref_ptr = (l, 0); ghost_name = γ; now = h }

    -- the lifetimes of the loan and of the sheet
    abbrev κs : ℕ → Lft × (Lft × Unit {0})
    κs ν = (ν ∷ κ, (κ, tt))

    abbrev pub to-next : ℕ → GName → TokenReader → Next.Ghost
    to-next ν γ h = ((κs ν, (q₁, (q₂, tt)), (meet_⊑_right (ν ∷ []) κ, tt), (ref γ h, tt), (vptr l 0 ∷ [], tt)), tt)

    -- the reference that is passed, and what its borrow holds
    abbrev loan : ℕ → GName → TokenReader → Fml
    loan ν γ h = (MutRef (named 0) (ν ∷ κ) B).own_val (ref γ h) (vptr l 0 ∷ [])

    abbrev lent : ℕ → GName → Fml
    lent ν γ = flent (ν ∷ κ) (Body (mem B) l 0 γ)

    -- the rest of the atom's token comes back for the share that is lent
    abbrev Rest : ℕ → SProp 𝓤
    Rest ν = wand 𝓤 (A.lft (ν ∷ []) q₁) (A.lft (ν ∷ []) full_share)

    -- the lender's part
    abbrev pub Lender : ℕ → GName → SProp 𝓤
    Lender ν γ = sep 𝓤 (sem 𝓛 (lent ν γ)) (Rest ν)

    -- the local, and what the struct in it owns
    abbrev cell : TokenReader → Fml
    cell h = fat full_share (T'.mir erased) l 0 (T'.lowered h)

    abbrev own : TokenReader → Fml
    own h = B.own_val h (T'.lowered h ∷ [])

    module _ (h : TokenReader) where
      asked : (ν : ℕ) (γ : GName) → Sound h.sheet.now h.sizes
          → ent 𝓤 (sep 𝓤 (A.lft (ν ∷ κ) q₁) (sep 𝓤 (A.lft κ q₂) (sem 𝓛 (loan ν γ h))))
          (Next.pre (to-next ν γ h))
      asked ν γ ok =
          qed 𝓛 (‵ (flft (ν ∷ κ) q₁) ∷ ‵ (flft κ q₂) ∷ ‵ (loan ν γ h) ∷ []) ∵ says ! ok $
          nothing ! $ move ! (2 ∷ 0 ∷ []) $ join ! $ move ! (1 ∷ 0 ∷ []) $ join ! $ frame ! $ nothing ! $
          move ! (1 ∷ 0 ∷ []) $ fjoin ! $ done !

      pub lends : Sound h.sheet.now h.sizes → ent 𝓤 (⋆ 𝓛 (‵ (cell h) ∷ ‵ (own h) ∷ ‵ (flft κ q) ∷ []))
          (H.⇛ (ex 𝓤 (λ (ν : ℕ). ex 𝓤 (λ (γ : GName). sep 𝓤 (Next.pre (to-next ν γ h)) (Lender ν γ)))))
      unfolding part_of
      lends ok =
          qed 𝓛 (‵ (cell h) ∷ ‵ (own h) ∷ ‵ (flft κ q) ∷ []) ∵ updating ! $
          use1 𝓛 (‵ (cell_at full_share B.mir (T'.lowered h ∷ []) l 0))
          (𝓛.laws.at_raw full_share (T'.mir erased) l 0 (T'.lowered h)) $
          fjoin ! $ fpack ! (List Val) (λ us. fsep (cell_at full_share B.mir us l 0) (B.own_val h us))
          (T'.lowered h ∷ []) $ lft_new ! tt (λ ν. move ! (1 ∷ []) $
          use1 𝓛 (later (some (λ (γ : GName). ‵ (loan ν γ h) ⊛ ‵ (lent ν γ)))) (lends_ref 𝓛 B (named 0)
          (ν ∷ κ) h l 0) $
          await ! tt $ pick ! (λ γ. split ! $
          -- [the reference; what is lent; ν's token; κ's]
          move ! (3 ∷ 2 ∷ []) $ use1 𝓛 (‵ (flft κ q₁) ⊛ ‵ (flft κ q₂)) (𝓛.lfts.lft_split κ q) $ split ! $
          move ! (2 ∷ []) $ use1 𝓛 (‵ (flft (ν ∷ []) q₁) ⊛ raw (Rest ν)) (𝓛.lfts.lft_carve ν q₁) $ split ! $
          move ! (0 ∷ 2 ∷ []) $ use2 𝓛 (‵ (flft (ν ∷ κ) q₁)) (𝓛.lfts.lft_meet (ν ∷ []) κ q₁) $
          -- [the meet's token; the rest of ν's; κ's; the reference; what is lent]
          move ! (0 ∷ 2 ∷ 3 ∷ []) $ use3 𝓛 (raw (Next.pre (to-next ν γ h))) (asked ν γ ok) $
          at_once ! $ show ! (λ (ν' : ℕ). ex 𝓤 (λ (γ' : GName). sep 𝓤 (Next.pre (to-next ν' γ' h)) (Lender ν' γ')))
          ν $
          show ! (λ (γ' : GName). sep 𝓤 (Next.pre (to-next ν γ' h)) (Lender ν γ')) γ $ frame ! $
          move ! (1 ∷ 0 ∷ []) $ done !))

      abbrev Said : Option Token → TokenReader → Type 0
      Said t h' = (t ≡ step_at (doc_of h.sheet.now) h.at) × (h' ≡ moved h)

      pub comes_back : (ν : ℕ) (γ : GName) (u : Val) → ent 𝓤 (sep 𝓤 (Next.post (to-next ν γ h) u) (Lender ν γ))
          (H.⇛ (ex 𝓤 (λ (t : Option Token). ⋆ 𝓛 (‵ ((O.the_row S.the_row).own_val t (u ∷ [])) ∷ ‵ (cell (moved h)) ∷ ‵ (own (moved h))
          ∷ ‵ (flft κ q) ∷ []))))
      unfolding part_of
      comes_back ν γ u =
          qed 𝓛 (raw (Next.post (to-next ν γ h) u) ∷ (‵ (lent ν γ) ⊛ raw (Rest ν)) ∷ []) ∵ updating ! $
          use1 𝓛 (later (some (λ (t : Option Token). ((‵ (flft (ν ∷ κ) q₁) ⊛ ‵ (flft κ q₂) ⊛ ‵ ftrue) ⊛
          ‵ ((O.the_row S.the_row).own_val t (u ∷ [])))
          ⊛ raw (ensured 𝓛 next.ended (next.clauses 𝓛 mem' run) (κs ν) (ref γ h, tt) tt t)))) (id⊢ 𝓤 _) $
          await ! tt $ pick ! (λ t. split ! $ move ! (1 ∷ []) $
          -- what `next` ensures, at some last reader
          use1 𝓛 (some (λ (zs : TokenReader × Unit {0}). ‵ (lasts next.ended (κs ν) (ref γ h, tt) zs) ⊛
          raw (fact 𝓤 (Said t zs.0)))) (id⊢ 𝓤 _) $ pick ! (λ zs. split ! $ move ! (1 ∷ []) $
          heard ! (Said t zs.0) (λ e. fsplit ! $ fsplit ! $ move ! (1 ∷ []) $ drop ! $ rewrite ! 0 (λ (z : TokenReader). ‵ (fres γ (B.coded.code z)))
          e.1 refl $
          -- [the last reader; …; the tokens and the step; the lender's part]
          move ! (3 ∷ []) $ split ! $ move ! (4 ∷ []) $ split ! $ split ! $
          -- [the meet's token; κ's; the step; what is lent; the rest of ν's; the last reader; …]
          use1 𝓛 (‵ (flft (ν ∷ []) q₁) ⊛ ‵ (flft κ q₁)) (𝓛.lfts.lft_unmeet (ν ∷ []) κ q₁) $ split ! $
          move ! (0 ∷ 5 ∷ []) $ use2 𝓛 (‵ (flft (ν ∷ []) full_share)) (apply∗ 𝓤 (A.lft (ν ∷ []) q₁)
          (A.lft (ν ∷ []) full_share)) $
          -- the loan is over, and the reader is taken back
          lft_end ! tt $ use1 𝓛 (‵ (fdead (ν ∷ κ))) (𝓛.lfts.dead-incl (ν ∷ κ) (ν ∷ []) (meet_⊑_left (ν ∷ []) κ)) $
          move ! (0 ∷ 4 ∷ 5 ∷ []) $ use3 𝓛 (later (‵ ((mem B).own_at (moved h) l 0))) (ref_back 𝓛 B (ν ∷ κ) γ
          (moved h) l 0) $ await ! tt $
          -- [the reader; half of κ's token; the other half; the step; …]
          move ! (2 ∷ []) $ split ! $ move ! (3 ∷ 0 ∷ []) $ use2 𝓛 (‵ (flft κ q)) (𝓛.lfts.lft_join κ q) $
          keep ! (2 ∷ 3 ∷ 0 ∷ []) $
          fpick ! (λ vs. fsplit ! $ spelt ! B (Is B) (shows 𝓛 B) (LL.vals D L) (LL.tells D L) full_share
          (moved h) vs l 0 $
          use1 𝓛 (‵ (cell (moved h))) (𝓛.laws.raw_at full_share (T'.mir erased) l 0 (T'.lowered (moved h))) $
          at_once ! $ show ! (λ (t' : Option Token). ⋆ 𝓛 (‵ ((O.the_row S.the_row).own_val t' (u ∷ [])) ∷ ‵ (cell (moved h)) ∷
          ‵ (own (moved h)) ∷ ‵ (flft κ q) ∷ [])) t $ move ! (2 ∷ []) $ done !))))
