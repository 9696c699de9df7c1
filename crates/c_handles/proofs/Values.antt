-- The machine values of a `RawBox`, of an `Owned` and of the handles, and what these own. Assumes `Logic`.
use Rattle.std.proofs.Common.{Option, Some, None, lit<, ◌≡◌, ℕ, List, [], ◌∷◌, ◌++◌, refl, sym, subst}
use mathlib.Core.Bool.{true, false, ◌&&◌}
use lib.Dec.{T}
use seplogic.Ra.Ura.{Ura}
use mir.Syntax.{impl, tnil, dnil, ty_ptr}
use mir.Raw.{raw as bare}
use mir.Val.{Val, vptr, vstruct, vcons, vnil, of_list, has_ty, WT}
use base.Fraction.{full_share}
use base.Fml.{Fml, fsep}
use base.Logic.{ent, sep, never, fst∗, guard_i}
use contract.Monad.{fact_use}
use types.Logic.{Logic, sem}
use types.Kit.{Item, Goal, Seq, Step, step, ‵, given, ◌$◌, ◌∵◌, !, qed, done, rewrite, move, drop, use1, fsplit, fjoin, fpick, fpack, feq_i, feq_l, learn}
use denote.RattleType.{RattleType, Valss}
use denote.Builtin.{RawPtr}
use denote.Memory.{lone, part_at, part_of, cell_at}
use denote.RawPtr.{Ptr, block_ptr, null_ptr, ptr_val, in_a_block, Testable}
use denote.Steps.{nothing}
use denote.Param.{layout}
use denote.Param.Laws.{Laws}
use denote.Struct.Struct.{within}
use denote.Struct.Owning.{shape}
use Rattle.std.specs.declared.alloc.Allocator.{Ghosts}
use Rattle.std.proofs.alloc.Calls.{Al, handle_tells}
use Rattle.std.proofs.cell.Inside.{Good}
use Rattle.std.specs.Box.Ownership.{box_owns}
use Rattle.std.proofs.ResultValues.{and_tt}
use Rattle.c_handles.specs.contracts.raw_box.RawBox as raw_box
use Rattle.std.specs.contracts.impls.GlobalAllocator.TheImpl.{ghosts}
use Rattle.std.proofs.GlobalToken.{dealloc_token-Testable}
use Rattle.c_handles.specs.contracts.owned.Owned as owned_contract
use Rattle.c_handles.specs.Handle.{handle_owns, heap}

abbrev pub both : Val → Val → Val
both v w = vstruct (vcons v (vcons w vnil))

module _ (R Z : RattleType) (L : Laws Z) (g : Ghosts Z.Denot) where
  abbrev pub RawBox : RattleType
  RawBox = raw_box.the_row R Z g

  abbrev al : Al
  al = record { row = Z; laws = L; g = g; d = impl [] tnil dnil; drops = impl [] tnil dnil }

  pub raw_box_good : (b o : ℕ) (h : Val) → Good (layout Z) h → T (has_ty (layout Z) h && true) × WT (both (vptr b o) h)
  raw_box_good b o h fits = (and_tt (has_ty (layout Z) h) fits.0, (tt, (fits.1, tt)))

  module _ {M : Type 1} {𝓤 : Ura M} {𝓛 : Logic 𝓤} {K : Type 0} {Γ : List (Item 𝓤)} {G : Goal 𝓤 𝓛.H} where
    pub raw_box_out : K → (d : RawBox.Denot) (vs : List Val)
        → ((b o : ℕ) (h : Val) → d.at ≡ block_ptr b o → vs ≡ both (vptr b o) h ∷ [] → Good (layout Z) h → Seq K 𝓛 (‵ (box_owns (g.dealloc_token d.alloc) R (block_ptr b o) d.value) ∷ ‵ (Z.own_val d.alloc (h ∷ [])) ∷ Γ) G)
        → Seq K 𝓛 (‵ (RawBox.own_val d vs) ∷ Γ) G
    raw_box_out t d vs k =
        fsplit t $ fpick t (λ vss. fsplit t $ feq_l t (λ ev. fsplit t $ feq_l t (λ ep. fsplit t $ handle_tells al t d.alloc vss.1.0 (λ h ea fits. move t (1 ∷ []) $ drop t $ move t (1 ∷ []) $
        in_a_block t d.at (λ p. box_owns (g.dealloc_token d.alloc) R p d.value) (fst∗ 𝓤 (never 𝓤) (sem 𝓛 (g.dealloc_token d.alloc (bare (lone R.mir)) null_ptr))) (λ b o e. k b o h e
        (subst (λ (p : Ptr). vs ≡ vstruct (of_list (ptr_val p ∷ h ∷ [])) ∷ []) e
        (subst (λ (ws : List Val). vs ≡ vstruct (of_list (ptr_val d.at ∷ (ws ++ []))) ∷ []) ea (subst (λ (ps : List Val). vs ≡ vstruct (of_list (ps ++ (vss.1.0 ++ []))) ∷ []) ep ev))) fits)))))

    pub raw_box_in : K → (b o : ℕ) (h : Val) (a : Z.Denot) (x : R.Denot)
        → Step K 𝓛 (‵ (RawBox.own_val (record { at = block_ptr b o; alloc = a; value = x }) (both (vptr b o) h ∷ [])) ∷ Γ) G (‵ (box_owns (g.dealloc_token a) R (block_ptr b o) x) ∷ ‵ (Z.own_val a (h ∷ [])) ∷ Γ) G
    raw_box_in t b o h a x = step (λ s. let v : Val = both (vptr b o) h in
        nothing t $ move t (2 ∷ 0 ∷ []) $ fjoin t $ feq_i t (List Val) (vptr b o ∷ []) (vptr b o ∷ []) refl $ fjoin t $ feq_i t (List Val) (v ∷ []) (v ∷ []) refl $ fjoin t $
        fpack t (Valss (RawPtr ∷ Z ∷ [])) (within (shape (raw_box.the_type R Z g)) (block_ptr b o, (a, tt)) (v ∷ [])) (vptr b o ∷ [], (h ∷ [], tt)) $ fjoin t $ s)

    -- the machine value of an allocator
    pub alloc_out : K → (a : Z.Denot) (vs : List Val) → ((h : Val) → vs ≡ h ∷ [] → Good (layout Z) h → Seq K 𝓛 (‵ (Z.own_val a (h ∷ [])) ∷ Γ) G) → Seq K 𝓛 (‵ (Z.own_val a vs) ∷ Γ) G
    alloc_out t a vs k = handle_tells al t a vs k

-- a struct of one pointer
abbrev pub one_val : Ptr → Val
one_val p = vstruct (vcons (ptr_val p) vnil)

pub ptr_good : (p : Ptr) → T (has_ty ty_ptr (ptr_val p)) × WT (ptr_val p)
ptr_good (block_ptr b o) = (tt, tt)
ptr_good null_ptr = (tt, record { fits = lit< tt })

pub one_good : (p : Ptr) → T (has_ty ty_ptr (ptr_val p) && true) × WT (one_val p)
one_good (block_ptr b o) = (tt, (tt, tt))
one_good null_ptr = (tt, (record { fits = lit< tt }, tt))

module _ (R : RattleType) where
  abbrev pub Owned : RattleType
  Owned = owned_contract.the_row R

  module _ {M : Type 1} {𝓤 : Ura M} {𝓛 : Logic 𝓤} {K : Type 0} {Γ : List (Item 𝓤)} {G : Goal 𝓤 𝓛.H} where
    pub owned_out : K → (d : Owned.Denot) (vs : List Val)
        → (vs ≡ one_val d.at ∷ [] → Seq K 𝓛 (‵ (handle_owns R d.at d.value) ∷ Γ) G)
        → Seq K 𝓛 (‵ (Owned.own_val d vs) ∷ Γ) G
    owned_out t d vs k =
        fsplit t $ fpick t (λ vss. fsplit t $ feq_l t (λ ev. fsplit t $ feq_l t (λ ep. drop t $
        k (subst (λ (ps : List Val). vs ≡ vstruct (of_list (ps ++ [])) ∷ []) ep ev))))

    pub owned_in : K → (p : Ptr) (x : Option R.Denot)
        → Step K 𝓛 (‵ (Owned.own_val (record { at = p; value = x }) (one_val p ∷ [])) ∷ Γ) G (‵ (handle_owns R p x) ∷ Γ) G
    owned_in t p x = step (λ k. let v : Val = one_val p in
        nothing t $ feq_i t (List Val) (ptr_val p ∷ []) (ptr_val p ∷ []) refl $ fjoin t $ feq_i t (List Val) (v ∷ []) (v ∷ []) refl $ fjoin t $
        fpack t (Valss (RawPtr ∷ [])) (within (shape (owned_contract.the_type R)) (p, tt) (v ∷ [])) (ptr_val p ∷ [], tt) $ fjoin t $ k)

    -- a pointer that owns nothing is null, and one that owns a box may be compared with null
    pub owned_cases : K → (p : Ptr) (x : Option R.Denot)
        → (p ≡ null_ptr → x ≡ None → Seq K 𝓛 Γ G)
        → ((b o : ℕ) (y : R.Denot) → p ≡ block_ptr b o → x ≡ Some y → Testable (block_ptr b o) → Seq K 𝓛 (‵ (box_owns (ghosts.dealloc_token heap) R (block_ptr b o) y) ∷ Γ) G)
        → Seq K 𝓛 (‵ (handle_owns R p x) ∷ Γ) G
    owned_cases t p None k₀ k₁ = feq_l t (λ e. k₀ e refl)
    owned_cases t p (Some y) k₀ k₁ =
        in_a_block t p (λ p. handle_owns R p (Some y)) (fst∗ 𝓤 (never 𝓤) (sem 𝓛 (ghosts.dealloc_token heap (bare (lone R.mir)) null_ptr))) (λ b o e.
        let Tok = ghosts.dealloc_token heap (bare (lone R.mir)) (block_ptr b o) in
        fsplit t $ move t (1 ∷ []) $
        use1 𝓛 (given (Testable (block_ptr b o)) (‵ Tok)) (fact_use 𝓤 (Testable (block_ptr b o)) (dealloc_token-Testable 𝓛 heap (bare (lone R.mir)) (block_ptr b o)) (guard_i 𝓤 (Testable (block_ptr b o)) (sem 𝓛 Tok))) $ learn t (λ te.
        move t (1 ∷ 0 ∷ []) $ fjoin t $ k₁ b o y e refl te))

  -- behind a reference: the right to free the box, and the pointer to it
  abbrev pub around : (b o rb ro : ℕ) → Fml
  around b o rb ro = fsep (ghosts.dealloc_token heap (bare (lone R.mir)) (block_ptr b o)) (cell_at full_share Owned.mir (one_val (block_ptr b o) ∷ []) rb ro)

  -- any object in the box makes the pointer whole again
  pub around_back : {M : Type 1} {𝓤 : Ura M} (𝓛 : Logic 𝓤) (p : Ptr) (b o rb ro : ℕ) → p ≡ block_ptr b o → (w : R.Denot)
      → ent 𝓤 (sep 𝓤 (sem 𝓛 (part_at R full_share w b o)) (sem 𝓛 (around b o rb ro))) (sem 𝓛 (part_at Owned full_share (record { at = p; value = Some w }) rb ro))
  unfolding part_of
  around_back 𝓛 p b o rb ro e w =
      qed 𝓛 (‵ (part_at R full_share w b o) ∷ ‵ (around b o rb ro) ∷ []) ∵ move ! (1 ∷ []) $ fsplit ! $ move ! (2 ∷ 0 ∷ []) $ fjoin ! $
      rewrite ! 0 (λ (p : Ptr). ‵ (handle_owns R p (Some w))) (sym e) refl $ rewrite ! 1 (λ (p : Ptr). ‵ (cell_at full_share Owned.mir (one_val p ∷ []) rb ro)) (sym e) refl $
      owned_in ! p (Some w) $ move ! (1 ∷ 0 ∷ []) $ fjoin ! $ fpack ! (List Val) (λ us. fsep (cell_at full_share Owned.mir us rb ro) (Owned.own_val (record { at = p; value = Some w }) us)) (one_val p ∷ []) $ done !
