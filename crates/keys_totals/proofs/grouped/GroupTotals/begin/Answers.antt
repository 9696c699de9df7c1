use Rattle.std.proofs.Common.{Some, sym, ap, subst, ◌∙◌, cond}
use Rattle.std.specs.BTreeMap.{UpdatesBy}
use Rattle.std.specs.Cmp.Lexicographic.{slice_cmp}
use Rattle.std.specs.Ordering.{nat_cmp}
use Rattle.std.specs.Str.{bytes_eq}
use Rattle.keys_groups.proofs.Entries.{changed_at}
use Rattle.keys_totals.specs.Totals.{total_at}
use Rattle.keys_totals.proofs.OwnTotals.{first_total}
use Rattle.keys_totals.proofs.grouped.GroupTotals.begin.Goals as goal

pub returns : goal.returns
returns c = λ other.
    let number = c.args.number in
    let old = c.args.self.now.map in
    let name = c.args.name.now in
    changed_at name old c.insert.new.self (Some number)
    (subst (λ text. UpdatesBy (λ x y. slice_cmp nat_cmp x.items y.items) (λ k. slice_cmp nat_cmp text k.items) old c.insert.new.self (Some number)) c.in_ok-key.ensures.items c.in_ok-insert.ensures.updates) other
    ∙ ap (λ t. cond (bytes_eq name other) (Some t) (total_at old other)) (sym (first_total number c.ranges.number.fits))
