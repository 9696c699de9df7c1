-- `object` follows the pointer to the object, to which a `&` is had for the loan.
use Rattle.std.proofs.Common.{◌≡◌, ℕ, ◌+◌, List, [], ◌∷◌, ◌++◌, refl, sym, subst, Some, IsSome}
use lib.Dec as D
use mir.Syntax.{a_type, ty_ptr}
use mir.Val.{Val, vptr}
use mir.MapTy.{inst_fn}
use base.Logic.{SProp, ent, emp, id⊢}
use base.Fml.{ftrue, fat, flft}
use prog.Wp.{WpFn}
use types.Kit.{‵, raw, ◌⊛◌, at_ret, ◌$◌, ◌∵◌, !, qed, by, move, keep, use0, use1, split, split3, join, fsplit, fjoin, feq_i, suffices, rewrite}
use types.Run.{look, stop, hop, fld, addr, of_opd, first, blocks, exec, returns, enter}
use types.ByLocal.{alloc_all, pass_all, free_all, look_at, get, through, sets, sets_last, env}
use contract.BorrowLft.{◌⊑◌}
use contract.Monad.{fact, fact_i}
use contract.Running.{tables}
use denote.Exit.{yes}
use denote.Builtin.{RefOf}
use denote.Opens.{hide, unhide}
use denote.Param.{param, layouts}
use denote.Param.Laws.{param_laws}
use denote.RattleType.{RattleType, owns}
use denote.RawPtr.{Ptr, ptr_val}
use denote.Signature.{types_at, plain}
use denote.Steps.{nothing, heard}
use denote.Triple.Walked.{Stays, stay_dropped, walk_of, Goes-dropped}
use Rattle.std.proofs.raw_atomic.Walks.{proved_at, leaves}
use Rattle.std.proofs.alloc.Shapes.{after}
use Rattle.c_handles.proofs.Reading.{reader_cases, pointer_in, pointer_out}
use Rattle.c_handles.specs.contracts.reader.Reader.{the_row}
use Rattle.c_handles.specs.contracts.reader.Reader.object.{ended, clauses}
use Rattle.c_handles.specs.contracts.reader.Reader.object.Key.{name as #self}
use Rattle.c_handles.proofs.reader.Reader.object.Statement.{statement}
use Rattle.c_handles.proofs.reader.Reader.object.Code as code

pub object_spec : {M : Type 1} → statement M
object_spec 𝓤 𝓛 𝓜 𝓡 wired T L =
    let H = 𝓛.H in let 𝓣 = tables 𝓤 H 𝓜 𝓡 𝓡.env in let R : RattleType = param 0 T in let O : RattleType = the_row R in let En = ended T in let c = clauses T 𝓛 𝓜.mem 𝓡.returns in
    let inst = layouts (a_type ∷ []) (T, tt) in let fn = inst_fn inst code.function in let S = RefOf (0 ∷ []) tt (plain (λ _. O)) (λ _. tt) in
    let hs : Stays En.signature.params En.kept = (stay_dropped S yes, tt) in
    proved_at 𝓛 En hs c 𝓜 𝓡 (Goes-dropped 𝓛 2 S yes (λ κs x f. refl), tt) (#self inst) fn (code.unfolded 𝓤 H 𝓜 𝓡 wired (T, tt)) (λ z are.
    let κ = z.0.0.0 in let q = z.0.1.0 in let r = z.0.3.0 in let rb : ℕ = r.ref_ptr.0 in let ro : ℕ = r.ref_ptr.1 in let x = r.now in
    let Post : Val → SProp 𝓤 = (walk_of 𝓛 En hs c).post z in let Run : List Val → SProp 𝓤 = λ ws. WpFn 𝓤 H 𝓣.C 𝓣.Λ fn ws Post in
    qed 𝓛 (((‵ (flft κ q) ⊛ ‵ (flft z.0.0.1.0 z.0.1.1.0) ⊛ ‵ ftrue) ⊛ ‵ (owns (types_at En.signature.params z.0.0) z.0.3 z.0.4)) ∷ raw ((c z.0.0 z.0.3).requires z.1) ∷ []) ∵
    split ! $ split3 ! $ move ! (3 ∷ []) $ fsplit ! $ fsplit ! $ move ! (6 ∷ []) $
    use1 𝓛 (raw (fact 𝓤 (z.0.0.1.0 ⊑ T.lives)) ⊛ raw (fact 𝓤 (IsSome x.value))) (id⊢ 𝓤 _) $ split ! $ move ! (1 ∷ []) $ heard ! (IsSome x.value) (λ filled.
    keep ! (2 ∷ 4 ∷ 5 ∷ []) $
    suffices ! (Run (vptr rb ro ∷ [])) (subst (λ (us : List Val). ent 𝓤 (Run (vptr rb ro ∷ [])) (Run (us ++ []))) (sym are.0.0) (id⊢ 𝓤 (Run (vptr rb ro ∷ [])))) $
    enter ! 𝓣.C 𝓣.Λ fn (vptr rb ro ∷ []) Post $ alloc_all ! (λ l. pass_all ! refl ((tt, tt), tt) $ let Ev = env fn.locals l in
    unhide ! $ fsplit ! $ move ! (1 ∷ []) $ reader_cases ! R (param_laws 0 T L).shr_laws x.at x.loan x.value κ
    (λ isnull isnone. absurd (subst D.T (sym (subst IsSome isnone filled)) tt))
    (λ b o y e is te. hide ! $ move ! (1 ∷ []) $ fsplit ! $ fsplit ! $ hide ! $ move ! (0 ∷ 4 ∷ []) $ pointer_in ! tt x.at rb (ro + 0) (λ s.
    rewrite ! 0 (λ (p : Ptr). ‵ (fat s ty_ptr rb (ro + 0) (ptr_val p))) e refl $
    first ! $ blocks ! $ sets_last ! (addr ! (through ! refl (fld ! refl (hop ! (look ! 0 refl) (stop !))))) refl (tt, tt) $
    exec ! 𝓣.C 𝓣.Λ Ev (after 1 fn.body) (at_ret Ev Post) $ sets ! (of_opd ! (get ! refl)) refl (tt, tt) $
    rewrite ! 0 (λ (p : Ptr). ‵ (fat s ty_ptr rb (ro + 0) (ptr_val p))) (sym e) refl $ pointer_out ! tt x.at rb (ro + 0) $
    -- [the token; the rest of the reader; the `&` to the object; the other token]
    returns ! (look_at ! 0 refl) $ free_all ! refl $ keep ! (3 ∷ 0 ∷ 4 ∷ []) $
    feq_i ! (List Val) (vptr b o ∷ []) (vptr b o ∷ []) refl $ fjoin ! $ nothing ! $ nothing ! $ fjoin ! $ nothing ! $ move ! (4 ∷ 0 ∷ []) $ join ! $ move ! (3 ∷ 0 ∷ []) $ join ! $
    use0 𝓛 (raw (fact 𝓤 (Some y ≡ x.value))) (fact_i 𝓤 (Some y ≡ x.value) (emp 𝓤) (sym is)) $ keep ! (1 ∷ 2 ∷ 3 ∷ 0 ∷ []) $
    by ! (leaves 𝓛 En hs c z (vptr b o) (record { ref_ptr = (b, o); now = y }) (tt, tt) (tt, tt)))))))
