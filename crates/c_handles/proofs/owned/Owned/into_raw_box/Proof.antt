-- `into_raw_box` tests the pointer for null, and takes it over with the allocator.
use Rattle.std.proofs.Common.{List, [], ◌∷◌, ◌++◌, refl, sym, ap, ◌∙◌, subst, lit<, Some, None}
use mir.Syntax.{a_type}
use mir.Val.{Val, vptr, vcons, vnil}
use mir.MapTy.{inst_fn}
use base.Logic.{SProp, ent, id⊢}
use base.Fml.{ftrue, flft}
use prog.Wp.{WpFn}
use types.Kit.{‵, raw, ◌⊛◌, at_ret, ◌$◌, ◌∵◌, !, qed, move, keep, split, join, fsplit, suffices, use0, use1, group, done}
use types.Run.{stop, fld, lit, of_opd, bin, no_more, and_then, first, branches, exec, returns, enter}
use types.ByLocal.{alloc_all, pass_all, free_all, look_at, get, get_in, sets, sets_last, env}
use types.Part.{agg, sub, whole}
use types.Match.{live}
use contract.Running.{tables}
use denote.Exit.{no, yes}
use denote.RattleType.{RattleType, owns}
use denote.RawPtr.{Ptr, block_ptr, null_ptr, tests_null}
use denote.Param.{param, layout, layouts}
use denote.Signature.{types_at, type_at, plain}
use denote.Steps.{nothing}
use denote.Triple.Walked.{Stays, stay_dropped, walk_of, says, Goes-dropped, ends_at}
use Rattle.std.proofs.option.Made.{Some-of, none_of}
use Rattle.std.proofs.alloc.Shapes.{after}
use Rattle.std.proofs.cell.Inside.{Good}
use Rattle.std.proofs.ResultValues.{and_tt}
use Rattle.std.proofs.raw_atomic.Walks.{proved_at}
use Rattle.std.specs.contracts.alloc.Global as heap
use Rattle.std.proofs.alloc.Global.TheLaws as heap_laws
use Rattle.std.specs.contracts.impls.GlobalAllocator.TheImpl.{ghosts}
use Rattle.c_handles.proofs.Values.{both, RawBox, raw_box_good, raw_box_in, alloc_out, Owned, one_val, ptr_good, one_good, owned_out, owned_cases}
use Rattle.c_handles.specs.contracts.owned.Owned.into_raw_box.{ended, clauses}
use Rattle.c_handles.specs.contracts.owned.Owned.into_raw_box.Key.{name as #self}
use Rattle.c_handles.proofs.owned.Owned.into_raw_box.Statement.{statement}
use Rattle.c_handles.proofs.owned.Owned.into_raw_box.Code as code

pub into_raw_box_spec : {M : Type 1} → statement M
into_raw_box_spec 𝓤 𝓛 𝓜 𝓡 wired T L =
    let H = 𝓛.H in let 𝓣 = tables 𝓤 H 𝓜 𝓡 𝓡.env in let R : RattleType = param 0 T in let En = ended T in let c = clauses T 𝓛 𝓜.mem 𝓡.returns in
    let inst = layouts (a_type ∷ []) (T, tt) in let fn = inst_fn inst code.function in let Z : RattleType = heap.the_row in let LZ = heap_laws.the_row_laws in let Lr : RattleType = RawBox R Z LZ ghosts in
    let hs : Stays En.signature.params En.kept = (stay_dropped (plain (λ _. Owned R)) no, (stay_dropped (plain (λ _. Z)) yes, tt)) in
    proved_at 𝓛 En hs c 𝓜 𝓡 (Goes-dropped 𝓛 1 (plain (λ _. Owned R)) no (λ κs x f. refl), (Goes-dropped 𝓛 1 (plain (λ _. Z)) yes (λ κs x f. refl), tt)) (#self inst) fn (code.unfolded 𝓤 H 𝓜 𝓡 wired (T, tt)) (λ z are.
    let κs = z.0.0 in let qs = z.0.1 in let v = z.0.3.0 in let a = z.0.3.1.0 in let Post : Val → SProp 𝓤 = (walk_of 𝓛 En hs c).post z in let Run : List Val → SProp 𝓤 = λ ws. WpFn 𝓤 H 𝓣.C 𝓣.Λ fn ws Post in
    let Out : RattleType = type_at En.signature.result κs in let toks = ‵ (flft κs.0 qs.0) ⊛ ‵ ftrue in
    qed 𝓛 ((toks ⊛ ‵ (owns (types_at En.signature.params κs) z.0.3 z.0.4)) ∷ raw ((c κs z.0.3).requires z.1) ∷ []) ∵ split ! $ move ! (1 ∷ []) $ fsplit ! $ owned_out R ! v z.0.4.0 (λ ws.
    -- [what it owns; the allocator and nothing; the token; a fact]
    move ! (1 ∷ []) $ fsplit ! $ alloc_out R Z LZ ghosts ! a z.0.4.1.0 (λ h eh good.
    -- [the allocator; nothing; what it owns; the token; a fact]
    keep ! (2 ∷ 0 ∷ 3 ∷ []) $
    owned_cases R ! v.at v.value
    -- [the allocator; the token]
    (λ isnull isnone. let us₀ : List Val = one_val null_ptr ∷ h ∷ [] in
    suffices ! (Run us₀) (subst (λ (us : List Val). ent 𝓤 (Run us₀) (Run us)) (sym (λ i. (ws ∙ ap (λ (p : Ptr). one_val p ∷ []) isnull) i ++ (eh i ++ []))) (id⊢ 𝓤 (Run us₀))) $
    enter ! 𝓣.C 𝓣.Λ fn us₀ Post $ alloc_all ! (λ l. pass_all ! refl (one_good null_ptr, (good, tt)) $ let Ev = env fn.locals l in
    sets ! (of_opd ! (get_in ! (fld ! refl (stop !)) (sub ! 0 refl (whole !)))) refl (ptr_good null_ptr) $
    sets ! (bin ! (get ! refl) (lit ! tt) tt) refl (tt, tt) $ first ! $ branches ! (get ! refl)
    (λ _. sets_last ! (agg ! (and_then ! (lit ! tt) (no_more !))) refl (tt, (record { fits = lit< tt }, tt)) $
    exec ! 𝓣.C 𝓣.Λ Ev (after 3 fn.body) (at_ret Ev Post) $ sets ! (of_opd ! (get ! refl)) refl (tt, (record { fits = lit< tt }, tt)) $
    use0 𝓛 (‵ (Out.own_val None (live 0 vnil ∷ []))) (none_of 𝓛 Lr) $
    returns ! (look_at ! 0 refl) $ free_all ! refl $ keep ! (0 ∷ 2 ∷ []) $
    suffices ! _ (ends_at 𝓛 En hs c z (live 0 vnil) None (tt, (tt, tt)) (tt, (tt, tt))) $ says ! isnone $
    nothing ! $ nothing ! $ join ! $ nothing ! $ join ! $ move ! (2 ∷ 0 ∷ 1 ∷ []) $ group ! 3 $ done !)
    (λ wrong. absurd wrong)))
    -- [the box; the allocator; the token]
    (λ b o y e is t. let us₀ : List Val = one_val (block_ptr b o) ∷ h ∷ [] in let made : Val = both (vptr b o) h in let v₁ : Val = live 1 (vcons made vnil) in let d : Lr.Denot = record { at = block_ptr b o; alloc = a; value = y } in
    let typed = raw_box_good R Z LZ ghosts b o h good in let good₁ : Good (layout Out) v₁ = (and_tt _ typed.0, (record { fits = lit< tt }, (typed.1, tt))) in
    suffices ! (Run us₀) (subst (λ (us : List Val). ent 𝓤 (Run us₀) (Run us)) (sym (λ i. (ws ∙ ap (λ (p : Ptr). one_val p ∷ []) e) i ++ (eh i ++ []))) (id⊢ 𝓤 (Run us₀))) $
    enter ! 𝓣.C 𝓣.Λ fn us₀ Post $ alloc_all ! (λ l. pass_all ! refl (one_good (block_ptr b o), (good, tt)) $ let Ev = env fn.locals l in
    sets ! (of_opd ! (get_in ! (fld ! refl (stop !)) (sub ! 0 refl (whole !)))) refl (tt, tt) $
    sets ! (bin ! (get ! refl) (lit ! tt) (tests_null (block_ptr b o) t)) refl (tt, tt) $ first ! $ branches ! (get ! refl) (λ wrong. absurd wrong) (λ _.
    sets ! (agg ! (and_then ! (get ! refl) (and_then ! (get ! refl) (no_more !)))) refl typed $ sets_last ! (agg ! (and_then ! (lit ! tt) (and_then ! (get ! refl) (no_more !)))) refl good₁ $
    exec ! 𝓣.C 𝓣.Λ Ev (after 3 fn.body) (at_ret Ev Post) $ sets ! (of_opd ! (get ! refl)) refl good₁ $
    raw_box_in R Z LZ ghosts ! b o h a y $ use1 𝓛 (‵ (Out.own_val (Some d) (v₁ ∷ []))) (Some-of 𝓛 Lr d made) $
    returns ! (look_at ! 0 refl) $ free_all ! refl $
    suffices ! _ (ends_at 𝓛 En hs c z v₁ (Some d) (tt, (tt, tt)) (tt, (tt, tt))) $ says ! is $
    nothing ! $ nothing ! $ join ! $ nothing ! $ join ! $ move ! (2 ∷ 0 ∷ 1 ∷ []) $ group ! 3 $ done !))))))
