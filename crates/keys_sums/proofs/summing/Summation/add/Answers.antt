use Rattle.std.proofs.Common.{Err, ap, sym, subst}
use Rattle.tuple_sketches.specs.declared.numbers.NumberPolicy.{NumberPolicy}
use Rattle.keys_sums.specs.Sums.{HasAdded}
use Rattle.keys_sums.proofs.Adding.{add_refusal, more_added, refused_line}
use Rattle.keys_sums.proofs.summing.Summation.add.Goals as goal

pub returns-in-Ok-clause-added : goal.returns-in-Ok-clause-added
returns-in-Ok-clause-added g c = λ hashing amount mode lg_k lines line hashed valued has.
    more_added mode hashing amount lg_k lines line _ _ c.args.hash c.args.value hashed valued (subst (HasAdded mode hashing amount lg_k lines) (sym c.self.view_is) has) (ap (λ (p : NumberPolicy). p.mode) c.in-Ok.ensures.same_policy) c.in-Ok.ensures.after c.in-Ok.ensures.nonempty c.in-Ok.ensures.refused c.saturating_add-self-inside.ensures

pub returns-in-Err-clause-past : goal.returns-in-Err-clause-past
returns-in-Err-clause-past g c = λ hashing amount mode lg_k lines line hashed valued has.
    refused_line {T = Unit {0}} mode hashing amount lg_k lines line (Err c.in-Err.error) _ c.args.hash c.args.value _ hashed valued (subst (HasAdded mode hashing amount lg_k lines) (sym c.self.view_is) has) c.in-Err.ensures.refused

pub returns-in-Err-clause-refused : goal.returns-in-Err-clause-refused
returns-in-Err-clause-refused g c = add_refusal {T = Unit {0}} c.self.inside.sketch.policy.mode (Err c.in-Err.error) c.args.hash c.args.value c.self.inside.sketch.state.map.kept _ c.in-Err.ensures.refused
