use Rattle.std.proofs.Common.{Some, subst}
use Rattle.std.specs.BTreeMap.{UpdatesBy}
use Rattle.std.specs.Cmp.Lexicographic.{slice_cmp}
use Rattle.std.specs.Ordering.{nat_cmp}
use Rattle.keys_groups.specs.Names.{name_hash, IsReachedIn}
use Rattle.keys_groups.proofs.Marks.{other_more}
use Rattle.keys_groups.proofs.names.NameIndex.put_other.Goals as goal

pub returns : goal.returns
returns c = λ texts counted index absent.
    let old = c.args.self.now.others in
    let new = c.insert.new.self in
    let name = c.args.name.now in
    other_more texts name c.args.number (λ m n. IsReachedIn c.args.self.now.buckets.items c.args.self.now.levels.items (name_hash m) n) old new counted index absent
    (subst (λ text. UpdatesBy (λ x y. slice_cmp nat_cmp x.items y.items) (λ k. slice_cmp nat_cmp text k.items) old new (Some c.args.number)) c.in_ok-key.ensures.items c.in_ok-insert.ensures.updates)
