use Rattle.std.proofs.Common.{◌≡◌, ℕ, eqb, sym, ap, ◌∙◌}
use Rattle.std.specs.Prelude.{◌||◌}
use Rattle.core_laws.specs.declared.TheConstants.{MAX_THETA}
use Rattle.core_state.specs.Fraction.{compact_fraction}
use Rattle.estimates.specs.Bounds.{count_bounds, deviation_count}
use Rattle.keys_reports.specs.Reports.{report_of, rounded}
use Rattle.keys_reports.proofs.part.report_of_part.Goals as goal

pub returns-then-is_empty : goal.returns-then-is_empty
unfolding report_of
returns-then-is_empty c = λ s empty theta count.
    let estimate : c.nearest.result ≡ rounded (compact_fraction s) = c.nearest.ensures ∙ ap rounded (c.part_fraction-over.ensures.fraction s empty theta count) in
    let interval = c.count_bounds.ensures in
    let exact = c.if-is_empty.true ∙ ap (λ b. b || eqb s.theta MAX_THETA) (sym (empty ∙ c.if-is_empty.true)) in
    (λ i. record { estimate = estimate i; interval = interval i; exact = exact i; retained = c.args.retained; theta = c.args.theta })
    ∙ (λ i. record { estimate = rounded (compact_fraction s); interval = count_bounds (deviation_count c.args.deviations) (sym count i) (sym theta i); exact = s.empty || eqb s.theta MAX_THETA; retained = sym count i; theta = sym theta i })

pub returns-else-is_empty : goal.returns-else-is_empty
unfolding report_of
returns-else-is_empty c = λ s empty theta count.
    let estimate : c.nearest.result ≡ rounded (compact_fraction s) = c.nearest.ensures ∙ ap rounded (c.part_fraction-over.ensures.fraction s empty theta count) in
    let interval = c.count_bounds.ensures in
    let exact = ap (λ (t : ℕ). eqb t MAX_THETA) (sym theta) ∙ ap (λ b. b || eqb s.theta MAX_THETA) (sym (empty ∙ c.if-is_empty.false)) in
    (λ i. record { estimate = estimate i; interval = interval i; exact = exact i; retained = c.args.retained; theta = c.args.theta })
    ∙ (λ i. record { estimate = rounded (compact_fraction s); interval = count_bounds (deviation_count c.args.deviations) (sym count i) (sym theta i); exact = s.empty || eqb s.theta MAX_THETA; retained = sym count i; theta = sym theta i })
