use Rattle.std.proofs.Common.{ℕ, ◌<◌, ◌*◌, ◌^◌, true, false, cond, arith}
use Rattle.std.proofs.lemmas.List.{length-map}
use Rattle.core_laws.specs.declared.TheConstants.{MAX_THETA}
use Rattle.core_state.proofs.updatable.UpdatableState.estimate_fraction.Goals as goal

pub returns-clause-limited : goal.returns-clause-limited
returns-clause-limited g c =
    let kept = c.num_retained.ensures in
    let few : c.num_retained.result < 2 ^ 32 = omega (arith, kept.sound.limited, kept.listed, length-map c.args.self.now.sequence g.E.SketchEntry.key) in
    rw c.count_fraction.ensures (elim c.self.inside.empty as (λ b. (cond {A = ℕ × ℕ} b (0, 1) (c.num_retained.result * MAX_THETA, c.retention_theta.result)).0 < 2 ^ 95) [ true ↦ omega arith | false ↦ omega (arith, few) ])
