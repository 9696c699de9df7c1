use Rattle.std.proofs.Common.{◌≡◌, ◌^◌, ℕ, None, refl, subst, ◌∙◌, ap}
use Rattle.core_laws.specs.Values.{cut_value}
use Rattle.core_slots.specs.Entry.{tuple_key}
use Rattle.core_operators.specs.Union.{union_value, lower_refusal, lower_allocates, lowered}
use Rattle.c_objects.specs.Status.{status_of, IsRefusal}
use Rattle.c_objects.specs.SumsStreams.{GivesLoweredSums}
use Rattle.c_objects.specs.SumsUnion.{sums_union_of}
use Rattle.tuple_sketches.specs.Streams.{given_numbers}
use Rattle.c_objects.proofs.Lowering.{accepted, same_refusal, same_request}
use Rattle.c_objects.proofs.sums_union.lower.Goals as goal

pub returns-in-Ok : goal.returns-in-Ok
returns-in-Ok c =
    let e = c.in-Ok.ensures in let b = c.bounded_lg_k.ensures in let u = sums_union_of c.args.union.now in let new = sums_union_of (record { union = c.lower_lg_k.new.self; seed = c.args.union.now.seed }) in
    let same : c.bounded_lg_k.result ≡ c.args.lg_k = accepted u e.sound c.args.lg_k c.bounded_lg_k.result b.valid b.great e.refused in
    let lower =
    subst (λ (n : ℕ). (lower_refusal u n ≡ None) × (new ≡ lowered tuple_key n u) × (union_value tuple_key new ≡ cut_value tuple_key (2 ^ n) (union_value tuple_key u)) × GivesLoweredSums n u new) same
    (e.refused, e.after, e.value, λ mode nominal k less start stream is fewer enough. e.given nominal k less start (given_numbers mode stream) is fewer enough) in
    (refl, (λ ok. lower), (λ failed. absurd (failed refl)))

pub returns-in-Err : goal.returns-in-Err
returns-in-Err c =
    let e = c.in-Err.ensures in let b = c.bounded_lg_k.ensures in let u = sums_union_of c.args.union.now in
    let byte = c.bounded_lg_k.result in
    let refused = same_refusal u e.sound c.args.lg_k byte b.valid b.great in let request = same_request u e.sound c.args.lg_k byte b.valid b.great in
    let is : IsRefusal (lower_refusal u byte) (lower_allocates u byte) c.status_of.result = (c.in-Err.error, c.status_of.ensures.status ∙ ap status_of c.kind.ensures, e.refused) in
    let given = subst (λ t. IsRefusal (lower_refusal u c.args.lg_k) t c.status_of.result) request (subst (λ r. IsRefusal r (lower_allocates u byte) c.status_of.result) refused is) in
    (refl, (λ ok. absurd (c.status_of.ensures.refused ok)), (λ failed. (given, e.err)))
