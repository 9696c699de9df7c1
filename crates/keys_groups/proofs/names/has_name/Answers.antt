use Rattle.std.proofs.Common.{sym, ap, ◌∙◌, arith}
use Rattle.std.proofs.lemmas.Bool.Decides.{nat_tests}
use Rattle.std.specs.Str.{bytes_eq}
use Rattle.keys_groups.proofs.Marks.{named_at, other_at, past_all}
use Rattle.keys_groups.proofs.names.has_name.Goals as goal

pub returns-in-Some-clause-named : goal.returns-in-Some-clause-named
returns-in-Some-clause-named g c = λ same.
    named_at c.args.entries.now c.args.number c.in-Some.entry.now c.args.name.now (grind (arith, nat_tests, c.in-Some.ensures.lookup.0)) c.in-Some.ensures.lookup.1
    (ap (λ t. bytes_eq t c.args.name.now) (sym c.as_slice.ensures.value) ∙ sym c.eq.ensures ∙ same)

pub returns-in-Some-clause-other : goal.returns-in-Some-clause-other
returns-in-Some-clause-other g c = λ apart.
    other_at c.args.entries.now c.args.number c.in-Some.entry.now c.args.name.now (grind (arith, nat_tests, c.in-Some.ensures.lookup.0)) c.in-Some.ensures.lookup.1
    (ap (λ t. bytes_eq t c.args.name.now) (sym c.as_slice.ensures.value) ∙ sym c.eq.ensures ∙ apart)

pub returns-in-None-clause-other : goal.returns-in-None-clause-other
returns-in-None-clause-other g c = λ _. past_all c.args.entries.now c.args.number c.args.name.now (grind (arith, nat_tests, c.in-None.ensures.lookup.0))
