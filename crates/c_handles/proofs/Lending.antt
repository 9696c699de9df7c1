-- A `&mut` to a struct as a `&mut` to another one that has the same bytes and owns the same: what `owned` of each handle passes on.
-- Assumes `Logic`.
pub use Rattle.std.proofs.Common.{refl}
use Rattle.std.proofs.Common.{◌≡◌, ℕ, List, [], ◌∷◌, ◌++◌, sym, subst}
use seplogic.Ra.Ura.{Ura}
use base.Fraction.{full_share}
use mir.Syntax.{Fn, Body, Ty, Callee, named, erased, mut, ty_ptr, ty_ref, local, value_local, place, deref, copy, rv_opd, addr_of, seq, assign, block, return}
use mir.Val.{Val, vptr}
use base.Logic.{SProp, ent, sep, emp, via, fst∗, id⊢}
use base.Fml.{GName, Fml, ftrue, fsep, fex, flft}
use prog.Model.{Model}
use prog.Wp.{WpFn, Closed}
use types.Logic.{Logic, sem}
use types.Kit.{‵, raw, ◌⊛◌, some, later, at_ret, ◌$◌, ◌∵◌, !, qed, done, move, keep, use1, split, split3, join, fsplit, fsplit3, fjoin, pick, await, suffices, frame, group}
use types.Run.{stop, addr, of_opd, first, blocks, exec, returns, enter}
use types.ByLocal.{alloc_all, pass_all, free_all, look_at, get, through, sets, sets_last, env}
use types.Mut.{open_ref}
use contract.Monad.{fact}
use contract.Running.{Running, tables}
use denote.Exit.{no}
use denote.Follow.{follows, lends_Part}
use denote.Memory.{mem, part_at, part_of, cell_raw, raw_all}
use denote.RattleType.{RattleType, owns}
use denote.Ref.{MutRef}
use denote.Signature.{types_at, plain, mut_ref_to}
use denote.Steps.{nothing}
use denote.Triple.Clauses.{Clauses, Ended, closing}
use denote.Triple.Spec.{Meets}
use denote.Triple.Walked.{says, Stays, stay_dropped, walk_of, ends_at, Goes-spent_ref}
use Rattle.std.proofs.raw_atomic.Walks.{proved_at}

abbrev last : Body
last = seq (assign (place 0 []) (rv_opd (copy (place 3 [])))) return

-- the code: an address is passed on through a raw pointer; `given` and `made` are the two types, and `given_at` and `made_at` what they
-- are in memory
abbrev pub function : (given made given_at made_at : Ty) → Fn
function given made given_at made_at = record {
  lifetimes = 1;
  outlives = [];
  ty_params = [];
  givens = 0;
  params = 1;
  locals = local (ty_ref (named 0) mut made) value_local ∷ local (ty_ref (named 0) mut given) value_local ∷ local ty_ptr value_local ∷ local (ty_ref erased mut made) value_local ∷ [];
  body = seq (assign (place 2 []) (addr_of (place 1 (deref given_at ∷ [])))) (seq (block (assign (place 3 []) (addr_of (place 2 (deref made_at ∷ []))))) last);
}

module _ (H O : RattleType) (to : H.Denot → O.Denot) (back : O.Denot → H.Denot)
    (bytes : raw_all H.mir ≡ raw_all O.mir)
    (out : (d : H.Denot) (vs : List Val) → H.own_val d vs ≡ O.own_val (to d) vs)
    (into : (w : O.Denot) (vs : List Val) → O.own_val w vs ≡ H.own_val (back w) vs) where
  -- in memory each is the other
  part_to : (d : H.Denot) (b o : ℕ) → part_at H full_share d b o ≡ part_at O full_share (to d) b o
  unfolding part_of
  part_to d b o = λ i. fex (List Val) (λ vs. fsep (cell_raw full_share (bytes i) vs b o) (out d vs i))

  part_back : (w : O.Denot) (b o : ℕ) → part_at O full_share w b o ≡ part_at H full_share (back w) b o
  unfolding part_of
  part_back w b o = λ i. fex (List Val) (λ vs. fsep (cell_raw full_share (sym bytes i) vs b o) (into w vs i))

  abbrev pub ended : Ended
  ended = record { signature = record { lifetimes = 1; outlives = []; params = mut_ref_to (0 ∷ []) tt (plain (λ _. H)) ∷ []; result = mut_ref_to (0 ∷ []) tt (plain (λ _. O)) }; kept = (no, tt) }

  abbrev stayed : Stays ended.signature.params ended.kept
  stayed = (stay_dropped (mut_ref_to (0 ∷ []) tt (plain (λ _. H))) no, tt)

  abbrev pub clauses : {M : Type 1} {𝓤 : Ura M} (𝓛 : Logic 𝓤) → Clauses 𝓤 ended
  clauses {𝓤 = 𝓤} 𝓛 κs a = record { ghost = Unit {0}; requires = λ _. emp 𝓤; ensures = λ _ r _. sep 𝓤 (sem 𝓛 (follows H O a.0.ghost_name r.ghost_name back)) (fact 𝓤 (r.now ≡ to a.0.now)) }

  module _ {M : Type 1} {𝓤 : Ura M} (𝓛 : Logic 𝓤) (𝓜 : Model 𝓤 𝓛.H) (𝓡 : Running 𝓤 𝓛.H 𝓜) where
    abbrev c : Clauses 𝓤 ended
    c = clauses 𝓛

    pub meets : (k : Callee) (given made given_at made_at : Ty) → Closed 𝓤 𝓛.H (tables 𝓤 𝓛.H 𝓜 𝓡 𝓡.env).C (tables 𝓤 𝓛.H 𝓜 𝓡 𝓡.env).Λ k (function given made given_at made_at)
        → Meets 𝓛 ended.signature ((tables 𝓤 𝓛.H 𝓜 𝓡 𝓡.env).C k) (closing 𝓛 ended c)
    meets k given made given_at made_at closed =
        let 𝓣 = tables 𝓤 𝓛.H 𝓜 𝓡 𝓡.env in let fn = function given made given_at made_at in
        proved_at 𝓛 ended stayed c 𝓜 𝓡 (Goes-spent_ref 𝓛 1 (0 ∷ []) tt (plain (λ _. H)), tt) k fn closed (λ z are.
        let κ = z.0.0.0 in let q = z.0.1.0 in let r = z.0.3.0 in let b : ℕ = r.ref_ptr.0 in let o : ℕ = r.ref_ptr.1 in let x = r.now in
        let Post : Val → SProp 𝓤 = (walk_of 𝓛 ended stayed c).post z in let Run : List Val → SProp 𝓤 = λ ws. WpFn 𝓤 𝓛.H 𝓣.C 𝓣.Λ fn ws Post in
        let got : GName → (MutRef (named 0) κ O).Denot = λ δ. record { ref_ptr = (b, o); ghost_name = δ; now = to x } in
        qed 𝓛 (((‵ (flft κ q) ⊛ ‵ ftrue) ⊛ ‵ (owns (types_at ended.signature.params z.0.0) z.0.3 z.0.4)) ∷ raw ((c z.0.0 z.0.3).requires z.1) ∷ []) ∵
        split ! $ split ! $ move ! (2 ∷ []) $ fsplit ! $ fsplit3 ! $ keep ! (1 ∷ 2 ∷ 4 ∷ []) $
        suffices ! (Run (vptr b o ∷ [])) (subst (λ (us : List Val). ent 𝓤 (Run (vptr b o ∷ [])) (Run (us ++ []))) (sym are.0.0) (id⊢ 𝓤 (Run (vptr b o ∷ [])))) $
        enter ! 𝓣.C 𝓣.Λ fn (vptr b o ∷ []) Post $ alloc_all ! (λ l. pass_all ! refl ((tt, tt), tt) $ let En = env fn.locals l in
        open_ref ! tt (mem H) $ use1 𝓛 (‵ (part_at O full_share (to x) b o)) (subst (λ (F : Fml). ent 𝓤 (sem 𝓛 (part_at H full_share x b o)) (sem 𝓛 F)) (part_to x b o) (id⊢ 𝓤 _)) $
        nothing ! $ move ! (2 ∷ 3 ∷ 4 ∷ 1 ∷ 0 ∷ []) $ group ! 5 $
        use1 𝓛 (later (some (λ (δ : GName). ‵ ((MutRef (named 0) κ O).own_val (got δ) (vptr b o ∷ [])) ⊛ ‵ (flft κ q) ⊛ ‵ (follows H O r.ghost_name δ back))))
        (lends_Part 𝓛 H O back (named 0) κ q b o b o r.ghost_name (sem 𝓛 ftrue) (λ w. via 𝓤 (sem 𝓛 (part_at O full_share w b o)) (fst∗ 𝓤 (sem 𝓛 (part_at O full_share w b o)) (sem 𝓛 ftrue)) (subst (λ (F : Fml). ent 𝓤 (sem 𝓛 (part_at O full_share w b o)) (sem 𝓛 F)) (part_back w b o) (id⊢ 𝓤 _))) (H.coded.code x) (H.coded.code x) (to x)) $
        await ! tt $ pick ! (λ δ. split3 ! $
        sets ! (addr ! (through ! refl (stop !))) refl (tt, tt) $ first ! $ blocks ! $ sets_last ! (addr ! (through ! refl (stop !))) refl (tt, tt) $
        exec ! 𝓣.C 𝓣.Λ En last (at_ret En Post) $ sets ! (of_opd ! (get ! refl)) refl (tt, tt) $
        returns ! (look_at ! 0 refl) $ free_all ! refl $ keep ! (0 ∷ 1 ∷ 2 ∷ []) $ suffices ! _ (ends_at 𝓛 ended stayed c z (vptr b o) (got δ) (tt, tt) (tt, tt)) $
        nothing ! $ nothing ! $ fjoin ! $ join ! $ nothing ! $ move ! (2 ∷ 0 ∷ []) $ join ! $ join ! $ frame ! $ says ! refl $ done !)))
