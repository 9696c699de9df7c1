-- `is_filled` tests the pointer for null, and leaves it.
use Rattle.std.proofs.Common.{ℕ, List, [], ◌∷◌, ◌++◌, refl, sym, ap, ◌∙◌, subst, Some, true, false, Option, is_some}
use base.Fraction.{full_share}
use mir.Syntax.{a_type}
use mir.Val.{Val, vptr, vbool}
use mir.MapTy.{inst_fn}
use base.Logic.{SProp, ent, id⊢}
use base.Fml.{ftrue, flft}
use prog.Wp.{WpFn}
use types.Kit.{‵, raw, ◌⊛◌, ◌$◌, ◌∵◌, !, qed, done, move, keep, split, split3, join, fsplit, fsplit3, fjoin, fjoin3, feq_i, suffices, rewrite}
use types.Run.{stop, fld, load, lit, of_opd, bin, un, returns, enter}
use types.ByLocal.{alloc_all, pass_all, free_all, look_at, get, through, sets}
use types.Part.{look_in, sub, whole}
use contract.Running.{tables}
use denote.Memory.{cell_at}
use denote.Param.{param, layouts}
use denote.RattleType.{RattleType, owns}
use denote.RawPtr.{Ptr, block_ptr, null_ptr, tests_null}
use denote.Signature.{types_at, plain}
use denote.Steps.{nothing, opens, closes}
use denote.Triple.Walked.{Stays, stay_ref, walk_of, ends_at, Goes-ref}
use Rattle.std.proofs.mem.Facts.{says_two}
use Rattle.std.proofs.raw_atomic.Walks.{proved_at}
use Rattle.c_handles.specs.Handle.{handle_owns}
use Rattle.c_handles.proofs.Values.{Owned, one_val, owned_out, owned_in, owned_cases, ptr_good}
use Rattle.c_handles.specs.contracts.owned.Owned.is_filled.{ended, clauses}
use Rattle.c_handles.specs.contracts.owned.Owned.is_filled.Key.{name as #self}
use Rattle.c_handles.proofs.owned.Owned.is_filled.Statement.{statement}
use Rattle.c_handles.proofs.owned.Owned.is_filled.Code as code

pub is_filled_spec : {M : Type 1} → statement M
is_filled_spec 𝓤 𝓛 𝓜 𝓡 wired T L =
    let H = 𝓛.H in let 𝓣 = tables 𝓤 H 𝓜 𝓡 𝓡.env in let R : RattleType = param 0 T in let O : RattleType = Owned R in let En = ended T in let c = clauses T 𝓛 𝓜.mem 𝓡.returns in
    let inst = layouts (a_type ∷ []) (T, tt) in let fn = inst_fn inst code.function in
    let hs : Stays En.signature.params En.kept = (stay_ref (0 ∷ []) tt (plain (λ _. O)), tt) in
    proved_at 𝓛 En hs c 𝓜 𝓡 (Goes-ref 𝓛 2 0 tt (plain (λ _. O)), tt) (#self inst) fn (code.unfolded 𝓤 H 𝓜 𝓡 wired (T, tt)) (λ z are.
    let κ = z.0.0.0 in let q = z.0.1.0 in let r = z.0.3.0 in let rb : ℕ = r.ref_ptr.0 in let ro : ℕ = r.ref_ptr.1 in let x = r.now in
    let Post : Val → SProp 𝓤 = (walk_of 𝓛 En hs c).post z in let Run : List Val → SProp 𝓤 = λ ws. WpFn 𝓤 H 𝓣.C 𝓣.Λ fn ws Post in
    qed 𝓛 (((‵ (flft κ q) ⊛ ‵ (flft z.0.0.1.0 z.0.1.1.0) ⊛ ‵ ftrue) ⊛ ‵ (owns (types_at En.signature.params z.0.0) z.0.3 z.0.4)) ∷ raw ((c z.0.0 z.0.3).requires z.1) ∷ []) ∵
    split ! $ split3 ! $ move ! (3 ∷ []) $ fsplit ! $ fsplit3 ! $ keep ! (1 ∷ 2 ∷ 4 ∷ 5 ∷ []) $
    suffices ! (Run (vptr rb ro ∷ [])) (subst (λ (us : List Val). ent 𝓤 (Run (vptr rb ro ∷ [])) (Run (us ++ []))) (sym are.0.0) (id⊢ 𝓤 (Run (vptr rb ro ∷ [])))) $
    enter ! 𝓣.C 𝓣.Λ fn (vptr rb ro ∷ []) Post $ alloc_all ! (λ l. pass_all ! refl ((tt, tt), tt) $
    opens ! tt O {h = x} rb ro (λ vs. move ! (1 ∷ []) $ owned_out R ! x vs (λ ws. owned_cases R ! x.at x.value
    -- [the cell; the open borrow; obs; auth; the other token]
    (λ isnull isnone. let at = ws ∙ ap (λ (p : Ptr). one_val p ∷ []) isnull in
    rewrite ! 0 (λ (us : List Val). ‵ (cell_at full_share O.mir us rb ro)) at refl $
    sets ! (of_opd ! (load ! (through ! refl (fld ! refl (stop !))) (look_in ! 0 (sub ! 0 refl (whole !))))) refl (ptr_good null_ptr) $
    sets ! (bin ! (get ! refl) (lit ! tt) tt) refl (tt, tt) $ sets ! (un ! (get ! refl) tt) refl (tt, tt) $
    rewrite ! 0 (λ (us : List Val). ‵ (cell_at full_share O.mir us rb ro)) (sym at) refl $ rewrite ! 0 (λ (us : List Val). ‵ (cell_at full_share O.mir us rb ro)) ws refl $
    feq_i ! Ptr x.at null_ptr isnull $ rewrite ! 0 (λ (v : Option T.Denot). ‵ (handle_owns R x.at v)) (sym isnone) refl $
    owned_in R ! x.at x.value $ move ! (1 ∷ 0 ∷ []) $ closes ! tt O x (one_val x.at ∷ []) rb ro $
    returns ! (look_at ! 0 refl) $ free_all ! refl $ keep ! (0 ∷ 1 ∷ 2 ∷ 3 ∷ []) $ suffices ! _ (ends_at 𝓛 En hs c z (vbool false) false (x, tt) (tt, tt)) $ says_two ! (ap is_some (sym isnone), refl) $
    feq_i ! (List Val) z.0.4.0 (vptr rb ro ∷ []) are.0.0 $ fjoin3 ! $ nothing ! $ move ! (1 ∷ 0 ∷ []) $ fjoin ! $
    feq_i ! (List Val) (vbool false ∷ []) (vbool false ∷ []) refl $ move ! (1 ∷ 0 ∷ []) $ join ! $ nothing ! $ move ! (3 ∷ 0 ∷ []) $ join ! $ move ! (2 ∷ 0 ∷ []) $ join ! $ join ! $ done !)
    -- [the box; the cell; the open borrow; obs; auth; the other token]
    (λ b o y e is t. let at = ws ∙ ap (λ (p : Ptr). one_val p ∷ []) e in
    rewrite ! 1 (λ (us : List Val). ‵ (cell_at full_share O.mir us rb ro)) at refl $
    sets ! (of_opd ! (load ! (through ! refl (fld ! refl (stop !))) (look_in ! 1 (sub ! 0 refl (whole !))))) refl (tt, tt) $
    sets ! (bin ! (get ! refl) (lit ! tt) (tests_null (block_ptr b o) t)) refl (tt, tt) $ sets ! (un ! (get ! refl) tt) refl (tt, tt) $
    rewrite ! 1 (λ (us : List Val). ‵ (cell_at full_share O.mir us rb ro)) (sym at) refl $ rewrite ! 1 (λ (us : List Val). ‵ (cell_at full_share O.mir us rb ro)) ws refl $
    rewrite ! 0 (λ (p : Ptr). ‵ (handle_owns R p (Some y))) (sym e) refl $ rewrite ! 0 (λ (v : Option T.Denot). ‵ (handle_owns R x.at v)) (sym is) refl $
    owned_in R ! x.at x.value $ move ! (1 ∷ 0 ∷ []) $ closes ! tt O x (one_val x.at ∷ []) rb ro $
    returns ! (look_at ! 0 refl) $ free_all ! refl $ keep ! (0 ∷ 1 ∷ 2 ∷ 3 ∷ []) $ suffices ! _ (ends_at 𝓛 En hs c z (vbool true) true (x, tt) (tt, tt)) $ says_two ! (ap is_some (sym is), refl) $
    feq_i ! (List Val) z.0.4.0 (vptr rb ro ∷ []) are.0.0 $ fjoin3 ! $ nothing ! $ move ! (1 ∷ 0 ∷ []) $ fjoin ! $
    feq_i ! (List Val) (vbool true ∷ []) (vbool true ∷ []) refl $ move ! (1 ∷ 0 ∷ []) $ join ! $ nothing ! $ move ! (3 ∷ 0 ∷ []) $ join ! $ move ! (2 ∷ 0 ∷ []) $ join ! $ join ! $ done !)))))
