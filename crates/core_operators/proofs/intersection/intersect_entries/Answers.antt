use Rattle.std.proofs.Common.{◌≡◌, ℕ, if◌then◌else◌, length, sym, ap, ◌∙◌, arith}
use Rattle.std.proofs.lemmas.List.{length-map}
use Rattle.core_laws.specs.Cuts.{Retained}
use Rattle.core_operators.specs.Intersection.{is_nothing_left}
use Rattle.core_operators.specs.declared.intersection.Outcome.TheVariants.{Nothing, Held}
use Rattle.core_operators.proofs.Outcomes.{met_value}
use Rattle.core_operators.proofs.SharedEntries.{shown_content}
use Rattle.core_operators.proofs.intersection.intersect_entries.Goals as goal

pub returns-clause-met : goal.returns-clause-met
returns-clause-met g c =
    let listing = g.S.EntrySketch.listing c.args.sketch in
    let key = g.S.Entry.SketchEntry.key in
    let merges = g.P.IntersectionMergePolicy.merges c.args.policy.now in
    let refuses = g.P.IntersectionMergePolicy.refuses c.args.policy.now in
    let keeps = g.met.P.IntersectionMergePolicy.keeps_hash c.args.policy.now in
    let was : Retained _ = record { entries = c.args.entries.now.items; theta = c.args.own_theta.now } in
    let next : Retained _ = record { entries = c.in_ok-next.next.items; theta = c.min-lesser.result } in
    let made = shown_content key merges refuses keeps (g.S.KeySketch.shown c.args.sketch) was listing c.in_ok-next.next.items c.args.theta c.min-lesser.result c.requires.retained c.min-lesser.ensures c.in_ok-next.ensures.all c.shared_with.ensures.listed c.requires.sound c.requires.of_theta in
    let content_is : c.len-content.result ≡ length c.args.entries.now.items = omega (arith, c.len-content.ensures, c.args.entries.now.ok) in
    let next_is : c.len.result ≡ length c.in_ok-next.next.items = omega (arith, c.len.ensures, c.in_ok-next.next.ok) in
    let count : c.args.count ≡ length listing = c.requires.counted ∙ ap length (sym c.shared_with.ensures.listed) ∙ length-map listing key in
    let outcome = c.outcome_of-outcome.ensures
    ∙ ap (λ (n : ℕ). if is_nothing_left c.min-lesser.result n c.args.count c.len.result then Nothing else Held) content_is
    ∙ ap (λ (n : ℕ). if is_nothing_left c.min-lesser.result (length was.entries) n c.len.result then Nothing else Held) count
    ∙ ap (λ (n : ℕ). if is_nothing_left c.min-lesser.result (length was.entries) (length listing) n then Nothing else Held) next_is in
    met_value key merges refuses was next listing c.args.theta c.outcome_of-outcome.result made.is_shared outcome

pub returns-clause-limited : goal.returns-clause-limited
returns-clause-limited g c =
    let shown = g.S.KeySketch.shown c.args.sketch in
    let made = shown_content _ _ _ (g.met.P.IntersectionMergePolicy.keeps_hash c.args.policy.now) shown (record { entries = c.args.entries.now.items; theta = c.args.own_theta.now }) (g.S.EntrySketch.listing c.args.sketch) c.in_ok-next.next.items c.args.theta c.min-lesser.result c.requires.retained c.min-lesser.ensures c.in_ok-next.ensures.all c.shared_with.ensures.listed c.requires.sound c.requires.of_theta in
    omega (arith, made.fewer, length-map (g.S.EntrySketch.listing c.args.sketch) g.S.Entry.SketchEntry.key, ap length c.shared_with.ensures.listed, c.requires.sound.limited)

pub returns-clause-retained : goal.returns-clause-retained
returns-clause-retained g c =
    let shown = g.S.KeySketch.shown c.args.sketch in
    let made = shown_content _ _ _ (g.met.P.IntersectionMergePolicy.keeps_hash c.args.policy.now) shown (record { entries = c.args.entries.now.items; theta = c.args.own_theta.now }) (g.S.EntrySketch.listing c.args.sketch) c.in_ok-next.next.items c.args.theta c.min-lesser.result c.requires.retained c.min-lesser.ensures c.in_ok-next.ensures.all c.shared_with.ensures.listed c.requires.sound c.requires.of_theta in
    made.retained
