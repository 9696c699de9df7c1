use Rattle.std.proofs.Common.{◌≡◌, ℕ, suc, ◌+◌, ◌++◌, sym, ap, ◌∙◌, append_assoc, arith}
use Rattle.distinct_arguments.specs.Faults.{options_of}
use Rattle.distinct_commands.specs.Visits.{ranges_head, bin_up_to, bins_text, visits_text}
use Rattle.distinct_commands.proofs.visits.visits_text.Goals as goal

pub loop-bin-preserved : goal.loop-bin-preserved
loop-bin-preserved c =
    let options = options_of c.args.options.now in
    let head = ranges_head c.args.options.now.form in
    let most : ℕ = c.greatest_sum-most.result in
    let bin : ℕ = c.loop-bin.bin in
    let next : bin + 1 ≡ suc bin = omega arith in
    c.in_ok-put_bin.ensures
    ∙ ap (λ bs. bs ++ bin_up_to options c.args.visits.now most bin) c.loop-bin.invariant
    ∙ append_assoc head (bins_text options c.args.visits.now most bin) (bin_up_to options c.args.visits.now most bin)
    ∙ ap (λ (n : ℕ). head ++ bins_text options c.args.visits.now most n) (sym next)

pub returns : goal.returns
unfolding visits_text
returns c =
    let options = options_of c.args.options.now in
    let head = ranges_head c.args.options.now.form in
    let all : c.loop-bin.bin ≡ 65 = omega (arith, c.loop-bin-test.false, c.loop-bin.auto.bin-end) in
    c.loop-bin.invariant
    ∙ ap (λ (n : ℕ). head ++ bins_text options c.args.visits.now c.greatest_sum-most.result n) all
    ∙ ap (λ (m : ℕ). head ++ bins_text options c.args.visits.now m 65) c.greatest_sum-most.ensures
