-- `none` makes a pointer that owns nothing.
use Rattle.std.proofs.Common.{[], ◌∷◌, refl, None}
use mir.Syntax.{a_type}
use mir.MapTy.{inst_fn}
use base.Fml.{ftrue, flft}
use types.Kit.{‵, raw, ◌⊛◌, ◌$◌, ◌∵◌, !, qed, move, keep, split, feq_i, suffices, group, done}
use types.Run.{lit, no_more, and_then, returns, enter}
use types.ByLocal.{alloc_all, pass_all, free_all, look_at, sets}
use types.Part.{agg}
use contract.Running.{tables}
use denote.RattleType.{RattleType}
use denote.RawPtr.{Ptr, null_ptr}
use denote.Param.{param, layouts}
use denote.Steps.{nothing}
use denote.Triple.Walked.{Stays, walk_of, says, ends_at}
use Rattle.std.proofs.raw_atomic.Walks.{proved}
use Rattle.c_handles.proofs.Values.{one_val, one_good, owned_in}
use Rattle.c_handles.specs.contracts.owned.Owned.none.{ended, clauses}
use Rattle.c_handles.specs.contracts.owned.Owned.none.Key.{name as #self}
use Rattle.c_handles.proofs.owned.Owned.none.Statement.{statement}
use Rattle.c_handles.proofs.owned.Owned.none.Code as code

pub none_spec : {M : Type 1} → statement M
none_spec 𝓤 𝓛 𝓜 𝓡 wired T L =
    let H = 𝓛.H in let 𝓣 = tables 𝓤 H 𝓜 𝓡 𝓡.env in let R : RattleType = param 0 T in let En = ended T in let c = clauses T 𝓛 𝓜.mem 𝓡.returns in
    let inst = layouts (a_type ∷ []) (T, tt) in let fn = inst_fn inst code.function in
    let hs : Stays En.signature.params En.kept = tt in
    proved 𝓛 En hs c 𝓜 𝓡 tt (#self inst) fn (code.unfolded 𝓤 H 𝓜 𝓡 wired (T, tt))
    (λ κs. tt) (λ κs. tt) (λ κs qs bounds a g are.
    let y : (walk_of 𝓛 En hs c).Ghost = ((κs, qs, bounds, a, tt), g) in
    qed 𝓛 (((‵ (flft κs.0 qs.0) ⊛ ‵ ftrue) ⊛ ‵ ftrue) ∷ raw ((c κs a).requires g) ∷ []) ∵ split ! $ keep ! (0 ∷ []) $
    enter ! _ _ _ _ _ $ alloc_all ! (λ l. pass_all ! refl tt $
    -- [the token; the locals]
    sets ! (agg ! (and_then ! (lit ! tt) (no_more !))) refl (one_good null_ptr) $
    returns ! (look_at ! 0 refl) $ free_all ! refl $
    suffices ! _ (ends_at 𝓛 En hs c y (one_val null_ptr) (record { at = null_ptr; value = None }) tt tt) $ says ! refl $
    feq_i ! Ptr null_ptr null_ptr refl $ owned_in R ! null_ptr None $ nothing ! $ move ! (2 ∷ 0 ∷ 1 ∷ []) $ group ! 3 $ done !))
