use Rattle.std.proofs.Common.{◌<◌, ◌^◌, length, refl, rules, arith}
use Rattle.std.specs.Prelude.{not}
use Rattle.std.specs.List.{filter}
use Rattle.std.proofs.lemmas.List.{length-map}
use Rattle.std.proofs.lemmas.List.Filters.{length-filter_both}
use Rattle.core_slots.specs.Entry.{tuple_key}
use Rattle.keys_sums.specs.Bins.{is_in}
use Rattle.keys_sums.proofs.bins.count_in.Goals as goal

pub loop-entry-init : goal.loop-entry-init
loop-entry-init g c =
    let entries = c.args.sketch.now.entries in
    let small : length (filter (λ e. is_in c.args.bin e.summary) entries) < 2 ^ 32 = omega (arith, c.iter-entry-items.ensures.sound.shown.limited, length-map entries tuple_key, length-filter_both (λ e. is_in c.args.bin e.summary) (λ e. not (is_in c.args.bin e.summary)) (λ e. refl) entries) in
    (search rules, small)
