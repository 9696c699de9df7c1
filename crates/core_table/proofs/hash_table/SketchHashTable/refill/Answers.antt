use Rattle.std.proofs.Common.{rules, ◌≡◌, ℕ, ◌+◌, ◌++◌, map, length, take, drop, ap, ◌∙◌, arith}
use Rattle.std.proofs.lemmas.List.{places}
use Rattle.core_laws.specs.Maps.{map_of}
use Rattle.core_table.specs.declared.insertion.Counts.{Counts}
use Rattle.core_table.proofs.FilledTables.{filled_probing}
use Rattle.core_table.proofs.hash_table.SketchHashTable.refill.Goals as goal

pub invariant_of-self : goal.invariant_of-self
invariant_of-self g c =
    let key = g.E.SketchEntry.key in
    let whole : take c.in_ok-slots.slots.len (c.settle_all.new.slots ++ drop (length c.settle_all.new.slots) c.in_ok-slots.slots.items) ≡ c.settle_all.new.slots = search (rules, places) in
    let all = c.settle_all.ensures.map ∙ ap (map_of key) c.in_ok-left.ensures.held in
    let n_is : c.len-count.result ≡ length c.args.entries.items = omega (arith, c.len-count.ensures, c.args.entries.ok) in
    let of : (f : Counts → ℕ) → f c.slots_holding.new.counts ≡ f (record c.nothing-counts.result { inserted = c.nothing-counts.result.inserted + length c.args.entries.items; fresh = c.nothing-counts.result.fresh + length c.args.entries.items }) = λ f. ap f c.in_ok-left.ensures.ticked in
    let none : (f : Counts → ℕ) → f c.nothing-counts.result ≡ f (record { inserted = 0; placed = 0; rebuilds = 0; fresh = 0; looks = 0; trims = 0 }) = λ f. ap f c.nothing-counts.ensures in
    rw whole
    (filled_probing key _ c.self.inside.lg_cur_size _ c.self.inside.threshold c.self.inside.count _ _ c.self.invariant (rw (← c.self.view_is) at c.requires.of_sketch)
    c.size_for-lg.result c.threshold_of-self-inside.result c.len-count.result (map g.E.PathEntry.content c.settle_all.new.slots) c.args.entries.items _
    (rw (← c.self.view_is) at c.requires.fill) n_is c.settle_all.ensures.laid_out all (rw c.lg_value.ensures at c.size_for-lg.ensures.sized) c.threshold_of-self-inside.ensures
    (omega (arith, n_is, of (λ d. d.inserted), none (λ d. d.inserted))) (omega (arith, n_is, of (λ d. d.fresh), none (λ d. d.fresh))) (of (λ d. d.placed) ∙ none (λ d. d.placed)) (of (λ d. d.rebuilds) ∙ none (λ d. d.rebuilds)))
