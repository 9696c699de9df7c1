-- What a command answers.
use Rattle.std.proofs.Common.{◌≡◌, ℕ, Bool, true, false, List, Option, Some, None, refl, sym, ap, subst, ◌∙◌}
use Rattle.std.specs.Prelude.{IfSome, IfOk, Result, Ok, Err}
use Rattle.std.specs.Option.{option_map}
use Rattle.core_compact.specs.CompactState.{Compact, ordered_sketch}
use Rattle.theta_sketches.specs.Image.{written}
use Rattle.sketch_base.specs.Seed.{seed_hash}
use Rattle.core_laws.specs.Values.{Sketch, Empty, NonEmpty}
use Rattle.core_slots.specs.declared.entry.TupleEntry.{TupleEntry}
use Rattle.keys_lines.specs.Lines.{lines_of_all}
use Rattle.keys_lines.specs.declared.key.Key.{Key}
use Rattle.tuple_sketches.specs.declared.numbers.SummaryMode.TheVariants.{Sum}
use Rattle.keys_sums.specs.Amounts.{AreNumbers}
use Rattle.keys_sums.specs.Images.{written_sums, ReadsSums}
use Rattle.keys_sums.specs.Sums.{one_each}
use Rattle.keys_sums.specs.Unions.{IsUnitedSums, AreSumsOfTexts}
use Rattle.keys_sums.specs.declared.addends.Amount.{Amount}
use Rattle.keys_sums.specs.declared.addends.Amount.TheVariants.{Number}
use Rattle.distinct_commands.specs.Sums.{sums_of, IsSumsText}
use Rattle.distinct_commands.specs.Answers.{sketch_of, lines_text, IsLinesText}
use Rattle.distinct_commands.specs.Groups.{grouping_of, listing_of, IsGroupsText, IsGroupedText}
use Rattle.distinct_commands.specs.Texts.{count_text}
use Rattle.distinct_commands.specs.Visits.{visits_text, IsVisitsOfImages}
use Rattle.keys_groups.specs.Groups.{AreGroups, group_sketch}
use Rattle.distinct_inputs.specs.Images.{in_form}
use Rattle.distinct_arguments.specs.Settings.{OptionValues, chosen_value}
use Rattle.distinct_arguments.specs.declared.fault.Fault.TheVariants.{SumNeedsValue}
use Rattle.distinct_inputs.specs.Failures.{chosen_summary, IsOfGroupTotals, IsOfGroupTotalsOf, IsOfNumbers, IsOfSums, IsOfTotal, IsOfTotalOf}
use Rattle.keys_totals.specs.Totals.{group_total, HasTotals, ListsTotals}
use Rattle.keys_totals.specs.declared.grouped.GroupTotals.{GroupTotals}
use Rattle.distinct_commands.specs.SumGroups.{IsGroupTotals, IsTotalsText}
use Rattle.distinct_messages.specs.declared.failure.Failure.{Failure}
use Rattle.distinct_messages.specs.declared.failure.Failure.TheVariants.{Arguments}

-- the sketch of lines that are in no groups, or their groups, as they are printed or written
ungrouped : (images : Bool) (options : OptionValues) (seed : ℕ) (texts : List (List ℕ)) (s : Compact ℕ) (out : List ℕ) → s ≡ sketch_of options seed texts → out ≡ lines_text images options s → IsLinesText images None options seed texts out
ungrouped false options seed texts s out is text = text ∙ ap (count_text options) is
ungrouped true options seed texts s out is text = text ∙ ap (λ (t : Compact ℕ). in_form options.hex (written t)) is

pub sketched : {V E : Type 0} (r : Result V E) (items : V → List ℕ) (known : Option (List (List ℕ))) (images : Bool) (by : Option Key) (options : OptionValues) (seed : ℕ) (s : Compact ℕ) →
    by ≡ None → IfSome known (λ texts. s ≡ sketch_of options seed texts) → IfOk r (λ v. items v ≡ lines_text images options s) →
    IfSome known (λ texts. IfOk r (λ v. IsLinesText images by options seed texts (items v)))
sketched r items None images by options seed s none is text = tt
sketched (Err e) items (Some texts) images by options seed s none is text = tt
sketched (Ok v) items (Some texts) images by options seed s none is text =
    subst (λ (b : Option Key). IsLinesText images b options seed texts (items v)) (sym none) (ungrouped images options seed texts s (items v) is text)

by_groups : (images : Bool) (options : OptionValues) (seed : ℕ) (texts : List (List ℕ)) (by : Key) (out : List ℕ) → IsGroupedText (listing_of images) options seed by texts out → IsLinesText images (Some by) options seed texts out
by_groups false options seed texts by out is = is
by_groups true options seed texts by out is = is

pub grouped : {V E : Type 0} (r : Result V E) (items : V → List ℕ) (images : Bool) (chosen : Option Key) (by : Key) (options : OptionValues) (seed : ℕ) (texts names : List (List ℕ)) →
    chosen ≡ Some by → AreGroups by (lines_of_all texts) names →
    IfOk r (λ v. IsGroupsText (listing_of images) options (group_sketch (grouping_of options seed by) (lines_of_all texts)) names (items v)) →
    IfOk r (λ v. IsLinesText images chosen options seed texts (items v))
grouped (Err e) items images chosen by options seed texts names is has printed = tt
grouped (Ok v) items images chosen by options seed texts names is has printed =
    subst (λ (b : Option Key). IsLinesText images b options seed texts (items v)) (sym is) (by_groups images options seed texts by (items v) (names, has, printed))

-- an ordered sketch has its seed hash
ordered_seed : {X : Type 0} (v : Sketch X) (h : ℕ) → (ordered_sketch v h).seed_hash ≡ h
ordered_seed Empty h = refl
ordered_seed (NonEmpty v) h = refl

-- the sketch of sums of lines, as its image is written
pub summed : {V E : Type 0} (r : Result V E) (items : V → List ℕ) (known : Option (List (List ℕ))) (amount : Amount) (options : OptionValues) (seed : ℕ) (s : Compact (TupleEntry ℕ)) (image : List ℕ) →
    IfSome known (λ texts. s ≡ sums_of (chosen_summary options) options amount seed texts) → IfSome known (λ texts. AreNumbers amount (lines_of_all texts)) → image ≡ written_sums s → (s.seed_hash ≡ seed_hash seed → ReadsSums image (seed_hash seed) s) →
    IfOk r (λ v. items v ≡ in_form options.hex image) → IfSome known (λ texts. IfOk r (λ v. IsSumsText amount options seed texts (items v)))
summed r items None amount options seed s image is numbers written reads form = tt
summed (Err e) items (Some texts) amount options seed s image is numbers written reads form = tt
summed (Ok v) items (Some texts) amount options seed s image is numbers written reads form = (
  image,
  record {
    numbers = numbers;
    written = written ∙ ap (λ (t : Compact (TupleEntry ℕ)). written_sums t) is;
    reads = subst (λ (t : Compact (TupleEntry ℕ)). ReadsSums image (seed_hash seed) t) is (reads (ap (λ (t : Compact (TupleEntry ℕ)). t.seed_hash) is ∙ ordered_seed _ (seed_hash seed)));
  },
  form,
)

-- what is printed of a union of images of sums
pub visited : (known : Option (List (List ℕ))) (options : OptionValues) (seed : ℕ) (s : Compact (TupleEntry ℕ)) (out : List ℕ) →
    IfSome known (λ all. IsUnitedSums Sum seed options.lg_k all s) → IfSome known (λ all. AreSumsOfTexts Sum seed options.lg_k all s) → out ≡ visits_text options s → IfSome known (λ all. IsVisitsOfImages options seed all out)
visited None options seed s out united apart text = tt
visited (Some all) options seed s out united apart text = record {
  sums = s;
  united = united;
  text = text;
  apart = λ key texts are. text ∙ ap (visits_text options) (apart key one_each texts are);
}

-- ---- failures of `sum`

unmapped : {X Y : Type 0} (f : X → Y) (o : Option X) → option_map f o ≡ None → o ≡ None
unmapped f None is = refl
unmapped f (Some x) is = absurd (cc)

-- no field has the numbers
pub lacks_value : (options : OptionValues) (seed : ℕ) (texts : Option (List (List ℕ))) (value : Option Key) → value ≡ chosen_value options → ((field : Key) → value ≡ Some field → ⊥) → IsOfTotal options seed texts (Arguments SumNeedsValue)
lacks_value options seed texts None is none = subst (λ (value : Option Key). IsOfTotalOf value options seed texts (Arguments SumNeedsValue)) is (unmapped _ options.value (sym is))
lacks_value options seed texts (Some field) is none = absurd (none field refl)

-- lines are not summed by the field that has them
pub not_summed : (options : OptionValues) (seed : ℕ) (texts : Option (List (List ℕ))) (field : Key) (f : Failure) → chosen_value options ≡ Some field → IsOfSums Sum options seed (Number field) texts f → IsOfTotal options seed texts f
not_summed options seed texts field f is failed = subst (λ (value : Option Key). IsOfTotalOf value options seed texts f) (sym is) failed

-- ---- totals by groups

-- the lines of the groups of texts, by the part of a line that has its number
pub totalled : (known : Option (List (List ℕ))) (by field : Key) (value : Option Key) (options : OptionValues) (totals : GroupTotals) (out : List ℕ) → value ≡ Some field → IfSome known (λ texts. HasTotals by (Number field) (lines_of_all texts) totals) →
    IfSome known (λ texts. AreNumbers (Number field) (lines_of_all texts)) → ((total : List ℕ → ℕ) (names : List (List ℕ)) → ListsTotals total names totals → IsTotalsText options total names out) → IfSome known (λ texts. IsGroupTotals value by options texts out)
totalled None by field value options totals out is has numbers text = tt
totalled (Some texts) by field value options totals out is has numbers text =
    subst (λ (v : Option Key). IsGroupTotals v by options texts out) (sym is) (numbers, has.0, has.1, text (group_total by (Number field) (lines_of_all texts)) has.0 has.2)

-- no field has the numbers
pub lacks_value_by : (options : OptionValues) (texts : Option (List (List ℕ))) (value : Option Key) → value ≡ chosen_value options → ((field : Key) → value ≡ Some field → ⊥) → IsOfGroupTotals options texts (Arguments SumNeedsValue)
lacks_value_by options texts None is none = subst (λ (value : Option Key). IsOfGroupTotalsOf value options texts (Arguments SumNeedsValue)) is (unmapped _ options.value (sym is))
lacks_value_by options texts (Some field) is none = absurd (none field refl)

-- a line has no number in the field that has them
pub not_totalled : (options : OptionValues) (texts : Option (List (List ℕ))) (field : Key) (f : Failure) → chosen_value options ≡ Some field → IsOfNumbers (Number field) texts f → IsOfGroupTotals options texts f
not_totalled options texts field f is failed = subst (λ (value : Option Key). IsOfGroupTotalsOf value options texts f) (sym is) failed
