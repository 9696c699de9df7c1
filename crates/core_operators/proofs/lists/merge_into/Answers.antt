use Rattle.std.proofs.Common.{◌≡◌, ℕ, set, None, inl, inr, sym, ap, ◌∙◌, arith}
use Rattle.std.proofs.lemmas.Result.{err_from_is_err_and}
use Rattle.core_laws.specs.Maps.{entry_at}
use Rattle.core_laws.proofs.maps.Insertions.{entry_at_gap}
use Rattle.core_operators.proofs.MergedListing.{on_ok}
use Rattle.core_operators.proofs.ListedMerge.{IsFound, screened, in_held, in_added, absent, after_put}
use Rattle.core_operators.proofs.lists.merge_into.Given.{Over}
use Rattle.core_operators.proofs.lists.merge_into.Goals as goal
use Rattle.core_operators.proofs.lists.merge_into.Goals.{then-hash-eq0-via-then-hash-eq0, then-hash-eq0-via-else-hash-eq0+then-hash-retention_theta}

-- ---- it is screened
pub returns-then-hash-eq0-clause-after : goal.returns-then-hash-eq0-clause-after
returns-then-hash-eq0-clause-after g c =
    (screened g.E.SketchEntry.key (g.P.UnionMergePolicy.merges c.args.policy.now) (g.P.UnionMergePolicy.refuses c.args.policy.now) (g.met.P.UnionMergePolicy.keeps_hash c.args.policy.now) c.args.table.now.map c.args.lists.now.held.items c.args.lists.now.added.items c.requires.lists c.args.entry.now c.args.hash c.requires.hash_is
    (elim c.then-hash-eq0.branch [
      | then-hash-eq0-via-then-hash-eq0 w ↦ inl w.if-hash-eq0.true
      | then-hash-eq0-via-else-hash-eq0+then-hash-retention_theta w ↦ inr (omega (arith, w.if-hash-retention_theta.true, w.retention_theta.ensures.theta))
    ])).after

pub returns-then-hash-eq0-clause-allowed : goal.returns-then-hash-eq0-clause-allowed
returns-then-hash-eq0-clause-allowed g c =
    (screened g.E.SketchEntry.key (g.P.UnionMergePolicy.merges c.args.policy.now) (g.P.UnionMergePolicy.refuses c.args.policy.now) (g.met.P.UnionMergePolicy.keeps_hash c.args.policy.now) c.args.table.now.map c.args.lists.now.held.items c.args.lists.now.added.items c.requires.lists c.args.entry.now c.args.hash c.requires.hash_is
    (elim c.then-hash-eq0.branch [
      | then-hash-eq0-via-then-hash-eq0 w ↦ inl w.if-hash-eq0.true
      | then-hash-eq0-via-else-hash-eq0+then-hash-retention_theta w ↦ inr (omega (arith, w.if-hash-retention_theta.true, w.retention_theta.ensures.theta))
    ])).refusal_is

-- ---- the first list has its hash
pub returns-in_err-merge-in-Ok-clause-refused : goal.returns-in_err-merge-in-Ok-clause-refused
returns-in_err-merge-in-Ok-clause-refused g c =
    let it = in_held g.E.SketchEntry.key (g.P.UnionMergePolicy.merges c.args.policy.now) (g.P.UnionMergePolicy.refuses c.args.policy.now) (g.met.P.UnionMergePolicy.keeps_hash c.args.policy.now) c.args.table.now.map c.args.lists.now.held.items c.args.lists.now.added.items c.requires.lists c.args.entry.now c.args.hash c.requires.hash_is
    c.if-hash-eq0.false (omega (arith, c.if-hash-retention_theta.false, c.retention_theta.ensures.theta)) c.in-Ok.at c.index_mut.result.now (rw c.deref.ensures.value at c.in-Ok.ensures.found) c.index_mut.ensures.value in
    let p = err_from_is_err_and c.from_residual.result c.from_residual.ensures.1 in
    rw (p.1, p.2) (elim c.in_err-merge-in-Ok.ensures.refused [ inl r ↦ inl (it.refusal_is ∙ r) | inr o ↦ inr o.0 ])

found : (g : Over) (c : goal.In_ok-merge-in-Ok g) → IsFound g.E.SketchEntry.key (g.P.UnionMergePolicy.merges c.args.policy.now) (g.P.UnionMergePolicy.refuses c.args.policy.now) c.args.table.now.map c.args.lists.now.held.items c.args.lists.now.added.items c.args.hash c.args.entry.now c.index_mut.result.now (λ y. set c.args.lists.now.held.items c.in-Ok.at y) (λ _. c.args.lists.now.added.items)
found g c =
    in_held g.E.SketchEntry.key (g.P.UnionMergePolicy.merges c.args.policy.now) (g.P.UnionMergePolicy.refuses c.args.policy.now) (g.met.P.UnionMergePolicy.keeps_hash c.args.policy.now) c.args.table.now.map c.args.lists.now.held.items c.args.lists.now.added.items c.requires.lists c.args.entry.now c.args.hash c.requires.hash_is
    c.if-hash-eq0.false (omega (arith, c.if-hash-retention_theta.false, c.retention_theta.ensures.theta)) c.in-Ok.at c.index_mut.result.now (rw c.deref.ensures.value at c.in-Ok.ensures.found) c.index_mut.ensures.value

pub returns-in-Ok-clause-lists : goal.returns-in-Ok-clause-lists
returns-in-Ok-clause-lists g c = ((found g c).merged c.merge.new.entry c.in_ok-merge-in-Ok.ensures.merged).lists

pub returns-in-Ok-clause-after : goal.returns-in-Ok-clause-after
returns-in-Ok-clause-after g c = ((found g c).merged c.merge.new.entry c.in_ok-merge-in-Ok.ensures.merged).after

pub returns-in-Ok-clause-allowed : goal.returns-in-Ok-clause-allowed
returns-in-Ok-clause-allowed g c = (found g c).refusal_is ∙ c.in_ok-merge-in-Ok.ensures.refused

-- ---- the second has
pub returns-in_err-merge-in-Ok-place_of-clause-refused : goal.returns-in_err-merge-in-Ok-place_of-clause-refused
returns-in_err-merge-in-Ok-place_of-clause-refused g c =
    let none : entry_at g.E.SketchEntry.key c.args.lists.now.held.items c.args.hash ≡ None = entry_at_gap g.E.SketchEntry.key c.args.lists.now.held.items c.args.hash c.in-Err.field-0 (rw c.deref.ensures.value at c.in-Err.ensures.absent) in
    let it = in_added g.E.SketchEntry.key (g.P.UnionMergePolicy.merges c.args.policy.now) (g.P.UnionMergePolicy.refuses c.args.policy.now) (g.met.P.UnionMergePolicy.keeps_hash c.args.policy.now) c.args.table.now.map c.args.lists.now.held.items c.args.lists.now.added.items c.requires.lists c.args.entry.now c.args.hash c.requires.hash_is
    c.if-hash-eq0.false (omega (arith, c.if-hash-retention_theta.false, c.retention_theta.ensures.theta)) c.in-Ok-place_of.at c.index_mut-in-Ok-place_of.result.now none (rw c.deref-2.ensures.value at c.in-Ok-place_of.ensures.found) c.index_mut-in-Ok-place_of.ensures.value in
    let p = err_from_is_err_and c.from_residual-in_err-merge-in-Ok-place_of.result c.from_residual-in_err-merge-in-Ok-place_of.ensures.1 in
    rw (p.1, p.2) (elim c.in_err-merge-in-Ok-place_of.ensures.refused [ inl r ↦ inl (it.refusal_is ∙ r) | inr o ↦ inr o.0 ])

found_added : (g : Over) (c : goal.In_ok-merge-in-Ok-place_of g) → IsFound g.E.SketchEntry.key (g.P.UnionMergePolicy.merges c.args.policy.now) (g.P.UnionMergePolicy.refuses c.args.policy.now) c.args.table.now.map c.args.lists.now.held.items c.args.lists.now.added.items c.args.hash c.args.entry.now c.index_mut-in-Ok-place_of.result.now (λ _. c.args.lists.now.held.items) (λ y. set c.args.lists.now.added.items c.in-Ok-place_of.at y)
found_added g c =
    let none : entry_at g.E.SketchEntry.key c.args.lists.now.held.items c.args.hash ≡ None = entry_at_gap g.E.SketchEntry.key c.args.lists.now.held.items c.args.hash c.in-Err.field-0 (rw c.deref.ensures.value at c.in-Err.ensures.absent) in
    in_added g.E.SketchEntry.key (g.P.UnionMergePolicy.merges c.args.policy.now) (g.P.UnionMergePolicy.refuses c.args.policy.now) (g.met.P.UnionMergePolicy.keeps_hash c.args.policy.now) c.args.table.now.map c.args.lists.now.held.items c.args.lists.now.added.items c.requires.lists c.args.entry.now c.args.hash c.requires.hash_is
    c.if-hash-eq0.false (omega (arith, c.if-hash-retention_theta.false, c.retention_theta.ensures.theta)) c.in-Ok-place_of.at c.index_mut-in-Ok-place_of.result.now none (rw c.deref-2.ensures.value at c.in-Ok-place_of.ensures.found) c.index_mut-in-Ok-place_of.ensures.value

pub returns-in_ok-merge-in-Ok-place_of-clause-lists : goal.returns-in_ok-merge-in-Ok-place_of-clause-lists
returns-in_ok-merge-in-Ok-place_of-clause-lists g c = ((found_added g c).merged c.merge-in-Ok-place_of.new.entry c.in_ok-merge-in-Ok-place_of.ensures.merged).lists

pub returns-in_ok-merge-in-Ok-place_of-clause-after : goal.returns-in_ok-merge-in-Ok-place_of-clause-after
returns-in_ok-merge-in-Ok-place_of-clause-after g c = ((found_added g c).merged c.merge-in-Ok-place_of.new.entry c.in_ok-merge-in-Ok-place_of.ensures.merged).after

pub returns-in_ok-merge-in-Ok-place_of-clause-allowed : goal.returns-in_ok-merge-in-Ok-place_of-clause-allowed
returns-in_ok-merge-in-Ok-place_of-clause-allowed g c = (found_added g c).refusal_is ∙ c.in_ok-merge-in-Ok-place_of.ensures.refused

-- ---- none has
pub put_entry-requires-clause-absent : goal.put_entry-requires-clause-absent
put_entry-requires-clause-absent g c =
    let key = g.E.SketchEntry.key in
    let clone_is = c.requires.clones_equal c.args.entry.now c.in_ok-clone-in-Err-place_of.field-0 c.in_ok-clone-in-Err-place_of.ensures.cases in
    let none : entry_at key c.args.lists.now.held.items c.args.hash ≡ None = entry_at_gap key c.args.lists.now.held.items c.args.hash c.in-Err.field-0 (rw c.deref.ensures.value at c.in-Err.ensures.absent) in
    ap (λ (h : ℕ). entry_at key c.args.lists.now.held.items h) (ap key clone_is ∙ sym c.requires.hash_is) ∙ none

pub returns-in_ok-clone-in-Err-place_of-clause-after : goal.returns-in_ok-clone-in-Err-place_of-clause-after
returns-in_ok-clone-in-Err-place_of-clause-after g c =
    let key = g.E.SketchEntry.key in
    let clone_is = c.requires.clones_equal c.args.entry.now c.in_ok-clone-in-Err-place_of.field-0 c.in_ok-clone-in-Err-place_of.ensures.cases in
    let none : entry_at key c.args.lists.now.held.items c.args.hash ≡ None = entry_at_gap key c.args.lists.now.held.items c.args.hash c.in-Err.field-0 (rw c.deref.ensures.value at c.in-Err.ensures.absent) in
    let none_added : entry_at key c.args.lists.now.added.items c.args.hash ≡ None = entry_at_gap key c.args.lists.now.added.items c.args.hash c.in-Err-place_of.at (rw c.deref-2.ensures.value at c.in-Err-place_of.ensures.absent) in
    on_ok c.put_entry.result _ _ (λ put.
    after_put key (g.P.UnionMergePolicy.merges c.args.policy.now) (g.P.UnionMergePolicy.refuses c.args.policy.now) (g.met.P.UnionMergePolicy.keeps_hash c.args.policy.now) c.args.table.now.map c.args.lists.now.held.items c.args.lists.now.added.items c.requires.lists c.args.entry.now c.args.hash c.requires.hash_is
    c.if-hash-eq0.false (omega (arith, c.if-hash-retention_theta.false, c.retention_theta.ensures.theta)) c.in_ok-clone-in-Err-place_of.field-0 c.put_entry.new.table.map c.put_entry.new.lists.held.items c.put_entry.new.lists.added.items clone_is c.put_entry.ensures.made_with put none none_added) c.put_entry.ensures.after

pub returns-in_ok-clone-in-Err-place_of-clause-allowed : goal.returns-in_ok-clone-in-Err-place_of-clause-allowed
returns-in_ok-clone-in-Err-place_of-clause-allowed g c =
    let key = g.E.SketchEntry.key in
    let none : entry_at key c.args.lists.now.held.items c.args.hash ≡ None = entry_at_gap key c.args.lists.now.held.items c.args.hash c.in-Err.field-0 (rw c.deref.ensures.value at c.in-Err.ensures.absent) in
    let none_added : entry_at key c.args.lists.now.added.items c.args.hash ≡ None = entry_at_gap key c.args.lists.now.added.items c.args.hash c.in-Err-place_of.at (rw c.deref-2.ensures.value at c.in-Err-place_of.ensures.absent) in
    on_ok c.put_entry.result _ _ (λ put.
    (absent key (g.P.UnionMergePolicy.merges c.args.policy.now) (g.P.UnionMergePolicy.refuses c.args.policy.now) (g.met.P.UnionMergePolicy.keeps_hash c.args.policy.now) c.args.table.now.map c.args.lists.now.held.items c.args.lists.now.added.items c.requires.lists c.args.entry.now c.args.hash c.requires.hash_is
    c.if-hash-eq0.false (omega (arith, c.if-hash-retention_theta.false, c.retention_theta.ensures.theta)) none none_added).refusal_is) c.put_entry.ensures.after
