-- A `&` to a reader is made of a borrow of it: a part of its loan, and what it has for the loan, which can be had twice. Assumes `Logic`.
use Rattle.std.proofs.Common.{ℕ, [], ◌∷◌, Option, Some, None}
use seplogic.Ra.Ura.{Ura}
use base.Logic.{sep, wand, apply∗}
use base.Fml.{Lft, Share, Fml, feq, fsep, fbor, flft}
use types.Logic.{Logic, sem, lfts}
use types.Kit.{‵, raw, ◌⊛◌, later, ◌$◌, !, qed, move, drop, use1, use2, split, await, updating, now, done}
use types.Tokens.{bor_fracture}
use denote.RattleType.{RattleType, RowLaws}
use denote.RawPtr.{Ptr, null_ptr}
use denote.Sharing.{ShrLaws, said, one, beside, held}
use denote.SharingLaws.{contraction, beside_shr_laws, said_shr_laws, one_shr_laws, held_shr_laws}
use denote.Struct.Lending.{Lends, lent_at, lent_at_shr_laws, Lends-both, Lends-said}
use Rattle.c_handles.specs.Handle.{testable, reader_owns, reader_lends}

module _ {M : Type 1} {𝓤 : Ura M} (𝓛 : Logic 𝓤) (l : Lft) where
  open 𝓛 use {H, A}

  -- a share of a lifetime's token
  Lends-token : (κ₀ : Lft) (share : Share) → Lends 𝓛 (flft κ₀ share) (one (λ q. flft κ₀ q)) l
  Lends-token κ₀ share κ ts inc sp = qed 𝓛 (‵ (fbor κ (flft κ₀ share)) ∷ raw (lfts 𝓛 ts) ∷ []) {P = H.⇛ (sep 𝓤 (sem 𝓛 (one (λ q. flft κ₀ q) κ)) (lfts 𝓛 ts))} (
      updating ! $ bor_fracture ! tt (λ q. flft κ₀ q) share $ now ! $ done !)

  -- what is shared for some lifetime already
  Lends-held : (κ₀ : Lft) (t : Lft → Fml) (L : ShrLaws t) → Lends 𝓛 (t κ₀) (held κ₀ t) l
  Lends-held κ₀ t L κ ts inc sp = qed 𝓛 (‵ (fbor κ (t κ₀)) ∷ raw (lfts 𝓛 ts) ∷ []) {P = H.⇛ (sep 𝓤 (sem 𝓛 (t κ₀)) (lfts 𝓛 ts))} (
      updating ! $ use2 𝓛 (later (‵ (t κ₀) ⊛ raw (wand 𝓤 (sem 𝓛 (t κ₀)) (H.⇛ (sep 𝓤 (A.bor κ (t κ₀)) (lfts 𝓛 ts)))))) (𝓛.more.bor_acc_by κ ts (t κ₀) sp) $ await ! tt $ split ! $
      use1 𝓛 (‵ (t κ₀) ⊛ ‵ (t κ₀)) (contraction 𝓛 t L κ₀) $ split ! $ move ! (0 ∷ 2 ∷ []) $
      use2 𝓛 (later (‵ (fbor κ (t κ₀)) ⊛ raw (lfts 𝓛 ts))) (apply∗ 𝓤 (sem 𝓛 (t κ₀)) (H.⇛ (sep 𝓤 (A.bor κ (t κ₀)) (lfts 𝓛 ts)))) $ await ! tt $ split ! $ drop ! $ move ! (1 ∷ 0 ∷ []) $ now ! $ done !)

module _ (R : RattleType) (L : RowLaws R) (p : Ptr) (loan : ℕ) where
  abbrev lent : R.Denot → Lft → Fml
  lent = lent_at R p

  lent-laws : (x : R.Denot) → ShrLaws (lent x)
  lent-laws = lent_at_shr_laws R L p

  pub reader_lends-laws : (x : Option R.Denot) → ShrLaws (reader_lends R p loan x)
  reader_lends-laws None = said_shr_laws (feq Ptr p null_ptr) tt
  reader_lends-laws (Some x) =
      beside_shr_laws (beside (one (λ q. flft (loan ∷ []) q)) (held (loan ∷ []) (lent x))) (said (testable p))
      (beside_shr_laws (one (λ q. flft (loan ∷ []) q)) (held (loan ∷ []) (lent x)) (one_shr_laws (λ q. flft (loan ∷ []) q)) (held_shr_laws (loan ∷ []) (lent x) (lent-laws x)))
      (said_shr_laws (testable p) (λ _. tt))

  pub Lends-reader : {M : Type 1} {𝓤 : Ura M} (𝓛 : Logic 𝓤) (share : Share) (x : Option R.Denot) (l : Lft) → Lends 𝓛 (reader_owns R p loan share x) (reader_lends R p loan x) l
  Lends-reader 𝓛 share None l = Lends-said 𝓛 (feq Ptr p null_ptr) tt l
  Lends-reader 𝓛 share (Some x) l =
      Lends-both 𝓛 (fsep (flft (loan ∷ []) share) (lent x (loan ∷ []))) (testable p) (beside (one (λ q. flft (loan ∷ []) q)) (held (loan ∷ []) (lent x))) (said (testable p)) l
      (Lends-both 𝓛 (flft (loan ∷ []) share) (lent x (loan ∷ [])) (one (λ q. flft (loan ∷ []) q)) (held (loan ∷ []) (lent x)) l
      (Lends-token 𝓛 l (loan ∷ []) share) (Lends-held 𝓛 l (loan ∷ []) (lent x) (lent-laws x)))
      (Lends-said 𝓛 (testable p) (λ _. tt) l)
