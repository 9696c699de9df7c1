-- What a walk does with a `&` to a reader. Assumes `Logic`.
use Rattle.std.proofs.Common.{Option, Some, None, ◌≡◌, ℕ, List, [], ◌∷◌, refl, subst, lit<}
use seplogic.Ra.Ura.{Ura}
use mir.Syntax.{ty_ptr}
use mir.Val.{Val, has_ty, WT}
use lib.Dec.{T}
use base.Logic.{never, fst∗}
use base.Fml.{Lft, Share, flft, fat}
use types.Logic.{Logic, sem}
use types.Kit.{Item, Goal, Seq, Soaks, Step, step, ‵, ◌$◌, move, drop, use2, fsplit, fpick, feq_i, feq_l, rewrite}
use contract.BorrowLft.{meet_⊑_left}
use denote.RattleType.{RattleType, RowLaws}
use denote.Copied.{plain_Copied}
use denote.Memory.{cell_at, part_at, hidden_shr, shared_of}
use denote.Moves.{moves_from}
use denote.Opens.{Shut}
use denote.RawPtr.{Ptr, RawPtr, block_ptr, null_ptr, ptr_val, coded_ptr, ptr_own, rawptr_pure, in_a_block, Testable}
use denote.Steps.{looks, shuts}
use denote.Struct.Laws.{RawPtr-laws}
use denote.Struct.Lending.{lent_at, lent_at_shr_laws}
use Rattle.c_handles.specs.Handle.{reader_lends}

-- a pointer is a machine value of its type
pub ptr_good : (p : Ptr) → T (has_ty ty_ptr (ptr_val p)) × WT (ptr_val p)
ptr_good (block_ptr b o) = (tt, tt)
ptr_good null_ptr = (tt, record { fits = lit< tt })

module _ {M : Type 1} {𝓤 : Ura M} {𝓛 : Logic 𝓤} {K : Type 0} {Γ : List (Item 𝓤)} {G : Goal 𝓤 𝓛.H} where
  -- the pointer is null, or a `&` to the object is had
  pub reader_cases : K → (R : RattleType) → RowLaws R → (p : Ptr) (loan : ℕ) (x : Option R.Denot) (κ : Lft)
      → (p ≡ null_ptr → x ≡ None → Seq K 𝓛 Γ G)
      → ((b o : ℕ) (y : R.Denot) → p ≡ block_ptr b o → x ≡ Some y → Testable (block_ptr b o) → Seq K 𝓛 (‵ (shared_of R y b o κ) ∷ Γ) G)
      → Seq K 𝓛 (‵ (reader_lends R p loan x κ) ∷ Γ) G
  reader_cases t R L p loan None κ k₀ k₁ = feq_l t (λ e. k₀ e refl)
  reader_cases t R L p loan (Some y) κ k₀ k₁ =
      fsplit t $ fsplit t $ use2 𝓛 (‵ (lent_at R p y κ)) (moves_from 𝓛 (lent_at R p y) (lent_at_shr_laws R L p y) κ (loan ∷ []) (loan ∷ []) (meet_⊑_left (loan ∷ []) κ)) $
      move t (1 ∷ []) $ fpick t (λ te. drop t $
      in_a_block t p (λ p. lent_at R p y κ) (fst∗ 𝓤 (never 𝓤) (sem 𝓛 (shared_of R y 0 0 κ))) (λ b o e. fsplit t $ drop t $
      k₁ b o y e refl (subst Testable e te)))

  -- the pointer in a struct behind a `&` is looked at
  pub pointer_in : K → Soaks G → {κ : Lft} {q : Share} (p : Ptr) (b at : ℕ)
      → ((part : Share) → Seq K 𝓛 (‵ (fat part ty_ptr b at (ptr_val p)) ∷ Shut 𝓛 κ q (part_at RawPtr part p b at) ∷ Γ) G) → Seq K 𝓛 (‵ (hidden_shr RawPtr κ p b at) ∷ ‵ (flft κ q) ∷ Γ) G
  pointer_in t z p b at k =
      looks t z RawPtr (plain_Copied 𝓛 Ptr coded_ptr (ty_ptr ∷ []) ptr_own rawptr_pure ptr_val RawPtr-laws.tells).opens p b at (λ part vs. move t (1 ∷ []) $ feq_l t (λ e.
      rewrite t 0 (λ (us : List Val). ‵ (cell_at part RawPtr.mir us b at)) e refl $ move t (2 ∷ []) $ drop t $ k part))

  pub pointer_out : K → Soaks G → {κ : Lft} {q part : Share} (p : Ptr) (b at : ℕ)
      → Step K 𝓛 (‵ (flft κ q) ∷ Γ) G (‵ (fat part ty_ptr b at (ptr_val p)) ∷ Shut 𝓛 κ q (part_at RawPtr part p b at) ∷ Γ) G
  pointer_out t z {part = part} p b at = step (λ s.
      feq_i t (List Val) (ptr_val p ∷ []) (ptr_val p ∷ []) refl $ move t (1 ∷ 0 ∷ []) $ shuts t z RawPtr part p (ptr_val p ∷ []) b at $ s)
