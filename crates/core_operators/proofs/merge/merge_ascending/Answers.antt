use Rattle.std.proofs.Common.{◌≡◌, ℕ, ◌<◌, ◌≤◌, [], min, Bool, true, false, refl, sym, ◌∙◌, inl, inr, arith}
use Rattle.std.proofs.lemmas.Bool.{cases_lt}
use Rattle.std.proofs.lemmas.List.{nil_from_length}
use Rattle.std.proofs.lemmas.Result.{err_from_is_err_and}
use Rattle.core_laws.proofs.maps.MapsOfLists.{ascending-apart}
use Rattle.core_operators.proofs.MergedListing.{IsNext, merge_starts, is_next, rest_merged, rest_refused, merged_in_order, at_or_above_zero}
use Rattle.core_operators.proofs.merge.merge_ascending.Given.{Over}
use Rattle.core_operators.proofs.merge.merge_ascending.Goals as goal
use Rattle.core_operators.proofs.merge.merge_ascending.Goals.{Else-is_past_either}
use Rattle.core_operators.proofs.merge.merge_ascending.Goals.{in_default, in-Some+then-is_past_either}

pub loop-first-init : goal.loop-first-init
loop-first-init g c = merge_starts (ascending-apart g.E.SketchEntry.key c.args.entries.now c.requires.ascending) (λ e. c.requires.ascending)

-- a hash that is past neither theta is below the first
below_first : (hash theta own : ℕ) (reported : Bool) → (min theta own ≤ hash → reported ≡ true) → reported ≡ false → hash < theta
below_first hash theta own reported past not_past =
    elim (cases_lt hash theta) [
      | inl lt ↦ lt
      | inr le ↦ absurd (let e = sym (past (omega (arith, le))) ∙ not_past in cc)
    ]

-- the entry in front isn't past
next : (g : Over) (c : goal.Else-is_past_either g) → IsNext c.loop-first.invariant c.loop-first.table.map c.hash-key.result c.in-Some.first.now c.in-Some.others.now
next g c = is_next c.loop-first.invariant (g.met.P.UnionMergePolicy.keeps_hash c.args.policy.now) c.in-Some.ensures.cases.0 c.hash-key.ensures (below_first _ _ _ _ c.is_past_either.ensures.1 c.if-is_past_either.false)

pub returns-in_err-merge_one-clause-refused : goal.returns-in_err-merge_one-clause-refused
returns-in_err-merge_one-clause-refused g c =
    let it = next g (goal.at.returns-in_err-merge_one-clause-refused g c).Else-is_past_either in
    let p = err_from_is_err_and c.from_residual.result c.from_residual.ensures.1 in
    rw (p.1, p.2) (it.refused _ c.in_err-merge_one.ensures.refused)

pub loop-first-preserved : goal.loop-first-preserved
loop-first-preserved g c =
    let it = next g (goal.at.loop-first-preserved g c).Else-is_past_either in
    it.merged _ (rw c.if-not-branch.false at c.in_ok-merge_one.ensures.after) (c.in_ok-merge_one.ensures.allowed c.if-not-branch.false)

-- nothing has changed, and the entries that are left are merged by way of a list
pub merge_listed-requires-clause-in_order : goal.merge_listed-requires-clause-in_order
merge_listed-requires-clause-in_order g c = λ e. rw (at_or_above_zero g.E.SketchEntry.key c.loop-first.left.now) (c.loop-first.invariant.merging.in_order refl)

pub returns-then-not-branch-clause-after : goal.returns-then-not-branch-clause-after
returns-then-not-branch-clause-after g c =
    rest_merged c.loop-first.invariant (rw c.if-not-branch.true at c.in_ok-merge_one.ensures.after) (at_or_above_zero g.E.SketchEntry.key c.loop-first.left.now) c.merge_listed.new.self.map c.merge_listed.result c.merge_listed.ensures.after

pub returns-then-not-branch-clause-refused : goal.returns-then-not-branch-clause-refused
returns-then-not-branch-clause-refused g c =
    rest_refused c.loop-first.invariant (rw c.if-not-branch.true at c.in_ok-merge_one.ensures.after) (at_or_above_zero g.E.SketchEntry.key c.loop-first.left.now) c.merge_listed.result c.merge_listed.ensures.refused

pub returns-clause-after : goal.returns-clause-after
returns-clause-after g c =
    let was = c.loop-first.invariant in
    elim c.match-split_first.branch [
      | in-Some+then-is_past_either w ↦ merged_in_order was w.in-Some.ensures.cases.0 (rw (← w.retention_theta.ensures.theta, ← w.hash-key.ensures) (w.is_past_either.ensures.0 w.if-is_past_either.true))
      | in_default w ↦
          let none : c.loop-first.left.now ≡ [] = nil_from_length c.loop-first.left.now w.in_default.ensures.cases in
          rw none at was.rest
    ]
