use Rattle.std.proofs.Common.{◌+◌, ◌^◌, ◌≤◌, ℕ, map, length, sym, ap, ◌∙◌, arith}
use Rattle.std.proofs.lemmas.List.{length-map}
use Rattle.std.proofs.Math.Pow.{pow_mono}
use Rattle.core_slots.specs.SlotLayout.{filled}
use Rattle.core_slots.specs.Rank.{HasRank}
use Rattle.core_slots.proofs.SlotLayouts.{length-map_of}
use Rattle.core_slots.proofs.Ranks.{apart-laid_out, apart-hashes, trimmed_at, trimmed_count}
use Rattle.core_table.proofs.insertion.cut_slots.Goals as goal

pub hash_of_rank-requires-clause-apart : goal.hash_of_rank-requires-clause-apart
hash_of_rank-requires-clause-apart g c =
    let key = g.E.SketchEntry.key in
    let slots = map g.E.PathEntry.content c.args.slots.now.items in
    let each = apart-laid_out key c.args.lg slots c.requires.laid_out in
    rw c.deref.ensures.value (apart-hashes key (filled slots) each)

pub hash_of_rank-requires-clause-counted : goal.hash_of_rank-requires-clause-counted
hash_of_rank-requires-clause-counted g c =
    let slots = map g.E.PathEntry.content c.args.slots.now.items in
    rw c.deref.ensures.value (omega (arith, length-map (filled slots) g.E.SketchEntry.key, c.requires.counted))

pub keep_below-requires-clause-kept : goal.keep_below-requires-clause-kept
keep_below-requires-clause-kept g c =
    let key = g.E.SketchEntry.key in
    let slots = map g.E.PathEntry.content c.args.slots.now.items in
    let each = apart-laid_out key c.args.lg slots c.requires.laid_out in
    let ranked : HasRank (map key (filled slots)) c.args.nominal c.in_ok-theta.theta = rw c.deref.ensures.value at c.in_ok-theta.ensures.ranked in
    omega (arith, trimmed_count key c.args.nominal c.in_ok-theta.theta (filled slots) each ranked)

pub keep_below-requires-clause-limited : goal.keep_below-requires-clause-limited
keep_below-requires-clause-limited g c =
    let most : 2 ^ c.args.lg ≤ 2 ^ 40 = pow_mono {i = c.args.lg} {j = 40} (omega (arith, c.requires.small)) in
    omega (arith, most, c.requires.many, c.requires.room)

pub returns-clause-after : goal.returns-clause-after
returns-clause-after g c =
    λ t low.
    let key = g.E.SketchEntry.key in
    let slots = map g.E.PathEntry.content c.args.slots.now.items in
    let each = apart-laid_out key c.args.lg slots c.requires.laid_out in
    let ranked : HasRank (map key (filled slots)) c.args.nominal c.in_ok-theta.theta = rw c.deref.ensures.value at c.in_ok-theta.ensures.ranked in
    ap (λ ys. record { entries = ys; theta = c.in_ok-theta.theta }) c.in_ok-keep_below.ensures.map ∙ sym (trimmed_at key c.args.nominal t c.in_ok-theta.theta (filled slots) each low ranked)

pub returns-clause-count : goal.returns-clause-count
returns-clause-count g c =
    let key = g.E.SketchEntry.key in
    let slots = map g.E.PathEntry.content c.args.slots.now.items in
    let each = apart-laid_out key c.args.lg slots c.requires.laid_out in
    let ranked : HasRank (map key (filled slots)) c.args.nominal c.in_ok-theta.theta = rw c.deref.ensures.value at c.in_ok-theta.ensures.ranked in
    let after = map g.E.PathEntry.content c.keep_below.new.slots.items in
    sym (length-map_of key c.args.lg after c.in_ok-keep_below.ensures.laid_out) ∙ ap length c.in_ok-keep_below.ensures.map ∙ trimmed_count key c.args.nominal c.in_ok-theta.theta (filled slots) each ranked

pub returns-clause-placed : goal.returns-clause-placed
returns-clause-placed g c = c.in_ok-keep_below.ensures.placed ∙ ap (λ (n : ℕ). c.args.placed.now + n) (returns-clause-count g c)
