-- `object` passes on the object that the pointer owns.
use Rattle.std.proofs.Common.{ℕ, List, [], ◌∷◌, ◌++◌, refl, sym, ap, ◌∙◌, subst, Some, IsSome}
use base.Fraction.{full_share}
use lib.Dec as D
use mir.Syntax.{Body, a_type, named, place, assign, rv_opd, copy, seq, return}
use mir.Val.{Val, vptr}
use mir.MapTy.{inst_fn}
use base.Logic.{SProp, ent, id⊢}
use base.Fml.{GName, ftrue, flft}
use prog.Wp.{WpFn}
use types.Logic.{sem}
use types.Kit.{‵, raw, ◌⊛◌, some, later, at_ret, ◌$◌, ◌∵◌, !, qed, done, move, keep, use1, split, split3, join, fsplit, fsplit3, fjoin, pick, await, suffices, frame, group, rewrite}
use types.Run.{stop, fld, load, addr, of_opd, first, blocks, exec, returns, enter}
use types.ByLocal.{alloc_all, pass_all, free_all, look_at, get, through, sets, sets_last, env}
use types.Part.{look_in, sub, whole}
use contract.BorrowLft.{◌⊑◌}
use contract.Monad.{fact}
use contract.Running.{tables}
use denote.Exit.{no}
use denote.Follow.{follows, lends_Part}
use denote.Memory.{cell_at}
use denote.Param.{param, layouts}
use denote.RattleType.{RattleType, owns}
use denote.RawPtr.{Ptr}
use denote.Ref.{MutRef}
use denote.Signature.{types_at, plain, mut_ref_to}
use denote.Steps.{nothing, opens, heard}
use denote.Triple.Walked.{says, Stays, stay_dropped, walk_of, ends_at, Goes-spent_ref}
use Rattle.std.proofs.raw_atomic.Walks.{proved_at}
use Rattle.c_handles.proofs.Values.{Owned, one_val, owned_out, owned_cases, around, around_back}
use Rattle.c_handles.specs.contracts.owned.Owned.object.{ended, clauses}
use Rattle.c_handles.specs.contracts.owned.Owned.object.Key.{name as #self}
use Rattle.c_handles.proofs.owned.Owned.object.Statement.{statement}
use Rattle.c_handles.proofs.owned.Owned.object.Code as code

abbrev last : Body
last = seq (assign (place 0 []) (rv_opd (copy (place 3 [])))) return

pub object_spec : {M : Type 1} → statement M
object_spec 𝓤 𝓛 𝓜 𝓡 wired T L =
    let H = 𝓛.H in let 𝓣 = tables 𝓤 H 𝓜 𝓡 𝓡.env in let R : RattleType = param 0 T in let O : RattleType = Owned R in let En = ended T in let c = clauses T 𝓛 𝓜.mem 𝓡.returns in
    let inst = layouts (a_type ∷ []) (T, tt) in let fn = inst_fn inst code.function in
    let hs : Stays En.signature.params En.kept = (stay_dropped (mut_ref_to (0 ∷ []) tt (plain (λ _. O))) no, tt) in
    proved_at 𝓛 En hs c 𝓜 𝓡 (Goes-spent_ref 𝓛 2 (0 ∷ []) tt (plain (λ _. O)), tt) (#self inst) fn (code.unfolded 𝓤 H 𝓜 𝓡 wired (T, tt)) (λ z are.
    let κ = z.0.0.0 in let q = z.0.1.0 in let r = z.0.3.0 in let rb : ℕ = r.ref_ptr.0 in let ro : ℕ = r.ref_ptr.1 in let x = r.now in
    let Post : Val → SProp 𝓤 = (walk_of 𝓛 En hs c).post z in let Run : List Val → SProp 𝓤 = λ ws. WpFn 𝓤 H 𝓣.C 𝓣.Λ fn ws Post in
    qed 𝓛 (((‵ (flft κ q) ⊛ ‵ (flft z.0.0.1.0 z.0.1.1.0) ⊛ ‵ ftrue) ⊛ ‵ (owns (types_at En.signature.params z.0.0) z.0.3 z.0.4)) ∷ raw ((c z.0.0 z.0.3).requires z.1) ∷ []) ∵
    split ! $ split3 ! $ move ! (3 ∷ []) $ fsplit ! $ fsplit3 ! $ move ! (7 ∷ []) $
    use1 𝓛 (raw (fact 𝓤 (z.0.0.1.0 ⊑ T.lives)) ⊛ raw (fact 𝓤 (IsSome x.value))) (id⊢ 𝓤 _) $ split ! $ move ! (1 ∷ []) $ heard ! (IsSome x.value) (λ filled.
    keep ! (2 ∷ 3 ∷ 5 ∷ 6 ∷ []) $
    suffices ! (Run (vptr rb ro ∷ [])) (subst (λ (us : List Val). ent 𝓤 (Run (vptr rb ro ∷ [])) (Run (us ++ []))) (sym are.0.0) (id⊢ 𝓤 (Run (vptr rb ro ∷ [])))) $
    enter ! 𝓣.C 𝓣.Λ fn (vptr rb ro ∷ []) Post $ alloc_all ! (λ l. pass_all ! refl ((tt, tt), tt) $ let Ev = env fn.locals l in
    opens ! tt O {h = x} rb ro (λ vs. move ! (1 ∷ []) $ owned_out R ! x vs (λ ws. owned_cases R ! x.at x.value
    (λ isnull isnone. absurd (subst D.T (sym (subst IsSome isnone filled)) tt))
    -- [the box; the cell; the open borrow; obs; auth; the other token]
    (λ b o y e is t. let rest = around R b o rb ro in let F : T.Denot → O.Denot = λ w. record { at = x.at; value = Some w } in
    let got : GName → (MutRef (named 0) κ R).Denot = λ δ. record { ref_ptr = (b, o); ghost_name = δ; now = y } in
    rewrite ! 1 (λ (us : List Val). ‵ (cell_at full_share O.mir us rb ro)) (ws ∙ ap (λ (p : Ptr). one_val p ∷ []) e) refl $ fsplit ! $
    sets ! (of_opd ! (load ! (through ! refl (fld ! refl (stop !))) (look_in ! 2 (sub ! 0 refl (whole !))))) refl (tt, tt) $
    first ! $ blocks ! $ sets_last ! (addr ! (through ! refl (stop !))) refl (tt, tt) $
    exec ! 𝓣.C 𝓣.Λ Ev last (at_ret Ev Post) $ sets ! (of_opd ! (get ! refl)) refl (tt, tt) $
    move ! (1 ∷ 2 ∷ []) $ fjoin ! $ move ! (2 ∷ 3 ∷ 4 ∷ 1 ∷ 0 ∷ []) $ group ! 5 $
    use1 𝓛 (later (some (λ (δ : GName). ‵ ((MutRef (named 0) κ R).own_val (got δ) (vptr b o ∷ [])) ⊛ ‵ (flft κ q) ⊛ ‵ (follows O R r.ghost_name δ F))))
    (lends_Part 𝓛 O R F (named 0) κ q rb ro b o r.ghost_name (sem 𝓛 rest) (around_back R 𝓛 x.at b o rb ro e) (O.coded.code x) (O.coded.code x) y) $ await ! tt $ pick ! (λ δ. split3 ! $
    returns ! (look_at ! 0 refl) $ free_all ! refl $ keep ! (0 ∷ 1 ∷ 2 ∷ 3 ∷ []) $ suffices ! _ (ends_at 𝓛 En hs c z (vptr b o) (got δ) (tt, tt) (tt, tt)) $
    nothing ! $ nothing ! $ fjoin ! $ join ! $ nothing ! $ move ! (4 ∷ 0 ∷ []) $ join ! $ move ! (2 ∷ 0 ∷ []) $ join ! $ join ! $ frame ! $ says ! (sym is) $ done !)))))))
