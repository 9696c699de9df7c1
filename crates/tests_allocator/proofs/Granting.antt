-- `grants` at a call: its arguments, and that the caller receives a Boolean and its lifetime back. Assumes `Logic`.
use Rattle.std.proofs.Common.{◌≡◌, ℕ, ◌^◌, ◌<◌, Bool, List, [], ◌∷◌, refl, ap, w64}
use seplogic.Ra.Ura.{Ura}
use mir.Val.{Val, vbool, vint, vptr}
use base.Logic.{SProp, ent, sep, ex, guard, id⊢}
use base.Fml.{Lft, Share, ftrue, fsep, flft}
use prog.Memory.{Memory}
use prog.Routine.{Routine}
use types.Logic.{Logic, sem}
use contract.Monad.{Fun}
use types.Kit.{‵, ◌⊛◌, some, later, ◌$◌, ◌∵◌, !, qed, raw, move, keep, use1, split, join, pick, fjoin, feq_i, feq_l, flt_i, check, show, await, updating, now as at_once, done}
use denote.Memory.{hidden_shr}
use denote.Builtin.{bool}
use denote.Steps.{nothing, only}
use denote.Triple.Statement.{Contract}
use denote.Triple.Spec.{triple_of}
use Rattle.tests_allocator.specs.declared.Requests.{Requests}
use Rattle.tests_allocator.specs.contracts.Requests as cells
use Rattle.tests_allocator.specs.contracts.Requests.grants as G

module _ {M : Type 1} {𝓤 : Ura M} (𝓛 : Logic 𝓤) (at_mem : Memory → SProp 𝓤) (run : Routine → Fun 𝓤) where
  abbrev pub Grants : Contract 𝓤
  Grants = triple_of 𝓛 G.signature (G.spec 𝓛 at_mem run)

  abbrev pub at_grants : Lft → Share → ℕ × ℕ → Requests → ℕ → Grants.Ghost
  at_grants κ q p d n = (((κ, tt), (q, tt), tt, (record { ref_ptr = p; now = d }, (n, tt)), (vptr p.0 p.1 ∷ [], (vint w64 n ∷ [], tt))), tt)

  module _ (κ : Lft) (q : Share) (p : ℕ × ℕ) (d : Requests) (n : ℕ) where
    open 𝓛 use {H, A}

    pub Grants-goes : n < 2 ^ 64 → ent 𝓤 (sep 𝓤 (sem 𝓛 (hidden_shr cells.the_row κ d p.0 p.1)) (A.lft κ q)) (Grants.pre (at_grants κ q p d n))
    Grants-goes fn =
        qed 𝓛 (‵ (hidden_shr cells.the_row κ d p.0 p.1) ∷ ‵ (flft κ q) ∷ []) ∵
        nothing ! $ flt_i ! n (2 ^ 64) fn $ feq_i ! (List Val) (vint w64 n ∷ []) (vint w64 n ∷ []) refl $ fjoin ! $ fjoin ! $ move ! (1 ∷ []) $
        feq_i ! (List Val) (vptr p.0 p.1 ∷ []) (vptr p.0 p.1 ∷ []) refl $ fjoin ! $ fjoin ! $
        nothing ! $ move ! (2 ∷ []) $ join ! $ join ! $ nothing ! $ move ! (1 ∷ []) $ join ! $ done !

    pub Grants-gives : (v : Val) → ent 𝓤 (Grants.post (at_grants κ q p d n) v) (H.⇛ (ex 𝓤 (λ (y : Bool). guard 𝓤 (v ≡ vbool y) (A.lft κ q))))
    Grants-gives v =
        qed 𝓛 (raw (Grants.post (at_grants κ q p d n) v) ∷ []) ∵ updating ! $
        use1 𝓛 (later (some (λ (y : Bool). ((‵ (flft κ q) ⊛ ‵ ftrue) ⊛ ‵ (bool.own_val y (v ∷ []))) ⊛ some (λ (ends : Unit {0} × (Unit {0} × Unit {0})). ‵ (fsep ftrue (fsep ftrue ftrue)) ⊛ ‵ ftrue)))) (id⊢ 𝓤 _) $ await ! tt $
        pick ! (λ y. split ! $ split ! $ move ! (1 ∷ []) $ feq_l ! (λ e. split ! $ at_once ! $
        show ! (λ (y : Bool). guard 𝓤 (v ≡ vbool y) (A.lft κ q)) y $ check ! (ap only e) $ keep ! (0 ∷ []) $ done !))
