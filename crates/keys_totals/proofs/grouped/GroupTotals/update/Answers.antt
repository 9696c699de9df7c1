use Rattle.std.proofs.Common.{Some, sym, ap, subst, refl, ◌∙◌, cond}
use Rattle.std.specs.Prelude.{IsSome}
use Rattle.std.specs.Str.{bytes_eq}
use Rattle.keys_groups.proofs.Entries.{changed_at}
use Rattle.keys_totals.specs.Totals.{total_at}
use Rattle.keys_totals.proofs.grouped.GroupTotals.update.Goals as goal

pub returns-in-Some : goal.returns-in-Some
returns-in-Some c =
    let was = c.in-Some.total.now in
    let now = c.saturating_add.result in
    let value = c.in-Some.ensures.value in
    let old = c.args.self.now.map in
    let name = c.args.name.now in (
      was,
      sym value,
      λ other.
          changed_at name old (c.get_mut.follows.lender now) (Some now) ((c.get_mut.follows.holds now).3 (subst (λ o. IsSome o) value refl)) other
          ∙ ap (λ t. cond (bytes_eq name other) (Some t) (total_at old other)) c.saturating_add.ensures,
    )
