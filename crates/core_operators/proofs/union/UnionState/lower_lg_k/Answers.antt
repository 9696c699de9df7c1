use Rattle.std.proofs.Common.{ℕ, sym, ap, subst, ◌∙◌, arith}
use Rattle.core_operators.specs.Union.{union_value, IsUnionOver}
use Rattle.core_laws.proofs.maps.Ascending.{ascending-filter}
use Rattle.core_laws.proofs.insertions.Cases.{IsRetained-below}
use Rattle.core_operators.proofs.LoweredUnion.{value_same, value_fewer, sound_smaller, lowered_is, over, over_smaller, over_theta}
use Rattle.core_operators.proofs.union.UnionState.lower_lg_k.Goals as goal

pub returns-then-lg_k-own-2-clause-value : goal.returns-then-lg_k-own-2-clause-value
returns-then-lg_k-own-2-clause-value g c =
    let key = g.E.SketchEntry.key in
    let t = c.self.inside.table.map in
    rw (← c.self.view_is) (value_same key (over key c.self.inside.empty c.self.inside.failed c.self.inside.policy t c.self.inside.theta) c.args.lg_k (omega arith) (ascending-filter key _ t.kept.entries c.self.invariant.table_sound.kept.ascending))

pub invariant_of-self : goal.invariant_of-self
invariant_of-self g c =
    let key = g.E.SketchEntry.key in
    let t = c.self.inside.table.map in
    let s = c.in_ok-smaller.smaller.map in
    let theta : ℕ = c.self.inside.theta in
    let kept = c.self.invariant.table_sound.kept in
    let old = over key c.self.inside.empty c.self.inside.failed c.self.inside.policy t theta in
    let is = over_smaller key c.self.inside.empty c.self.inside.failed c.self.inside.policy t s theta c.retention_theta-self-inside.result c.args.lg_k kept.ascending c.in_ok-smaller.ensures.made c.retention_theta-self-inside.ensures.theta in
    let theta_is = over_theta key c.self.inside.empty c.self.inside.failed c.self.inside.policy t s theta c.retention_theta-self-inside.result c.args.lg_k kept.ascending c.in_ok-smaller.ensures.made c.retention_theta-self-inside.ensures.theta in
    let sound = sound_smaller key old c.args.lg_k s c.retention_theta-self-inside.ensures.sound theta_is (omega arith) (omega arith) c.self.invariant.union (IsRetained-below key _ _ _ kept c.self.invariant.theta_low c.self.invariant.theta_within) in
    subst (λ v. IsUnionOver key s v) (sym is) sound

pub returns-clause-after : goal.returns-clause-after
returns-clause-after g c =
    let t = c.self.inside.table.map in
    let old = over g.E.SketchEntry.key c.self.inside.empty c.self.inside.failed c.self.inside.policy t c.self.inside.theta in
    let is = over_smaller g.E.SketchEntry.key c.self.inside.empty c.self.inside.failed c.self.inside.policy t c.in_ok-smaller.smaller.map c.self.inside.theta c.retention_theta-self-inside.result c.args.lg_k c.self.invariant.table_sound.kept.ascending c.in_ok-smaller.ensures.made c.retention_theta-self-inside.ensures.theta in
    rw (← c.self.view_is) (is ∙ lowered_is g.E.SketchEntry.key old c.args.lg_k (λ same. absurd (omega (arith, same))))

pub returns-clause-value : goal.returns-clause-value
returns-clause-value g c =
    let key = g.E.SketchEntry.key in
    let t = c.self.inside.table.map in
    let up = c.self.invariant.table_sound.kept.ascending in
    let old = over key c.self.inside.empty c.self.inside.failed c.self.inside.policy t c.self.inside.theta in
    let is = over_smaller key c.self.inside.empty c.self.inside.failed c.self.inside.policy t c.in_ok-smaller.smaller.map c.self.inside.theta c.retention_theta-self-inside.result c.args.lg_k up c.in_ok-smaller.ensures.made c.retention_theta-self-inside.ensures.theta in
    rw (← c.self.view_is) (ap (union_value key) is ∙ value_fewer key old c.args.lg_k (omega arith) (ascending-filter key _ t.kept.entries up))

pub returns-then-self-clause-content : goal.returns-then-self-clause-content
returns-then-self-clause-content g c = rw (← c.self.view_is) (IsRetained-below g.E.SketchEntry.key _ _ _ c.self.invariant.table_sound.kept c.self.invariant.theta_low c.self.invariant.theta_within)

pub returns-then-lg_k-lt-MIN_LG_K-clause-content : goal.returns-then-lg_k-lt-MIN_LG_K-clause-content
returns-then-lg_k-lt-MIN_LG_K-clause-content g c = rw (← c.self.view_is) (IsRetained-below g.E.SketchEntry.key _ _ _ c.self.invariant.table_sound.kept c.self.invariant.theta_low c.self.invariant.theta_within)

pub returns-then-lg_k-own-2-clause-content : goal.returns-then-lg_k-own-2-clause-content
returns-then-lg_k-own-2-clause-content g c = rw (← c.self.view_is) (IsRetained-below g.E.SketchEntry.key _ _ _ c.self.invariant.table_sound.kept c.self.invariant.theta_low c.self.invariant.theta_within)

pub returns-in_err-smaller-clause-content : goal.returns-in_err-smaller-clause-content
returns-in_err-smaller-clause-content g c = rw (← c.self.view_is) (IsRetained-below g.E.SketchEntry.key _ _ _ c.self.invariant.table_sound.kept c.self.invariant.theta_low c.self.invariant.theta_within)

pub returns-clause-content : goal.returns-clause-content
returns-clause-content g c = rw (← c.self.view_is) (IsRetained-below g.E.SketchEntry.key _ _ _ c.self.invariant.table_sound.kept c.self.invariant.theta_low c.self.invariant.theta_within)
