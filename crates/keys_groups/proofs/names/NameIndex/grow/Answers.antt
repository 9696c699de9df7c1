use Rattle.std.proofs.Common.{inr}
use Rattle.keys_groups.proofs.Marks.{still_reached}
use Rattle.keys_groups.proofs.names.NameIndex.grow.Goals as goal

pub returns-in_err-grow_buckets-clause-kept : goal.returns-in_err-grow_buckets-clause-kept
returns-in_err-grow_buckets-clause-kept c = λ hash number.
    still_reached c.args.self.now.buckets.items c.grow_buckets.new.buckets.items c.args.self.now.levels.items hash number (λ bucket. c.grow_buckets.ensures bucket hash number)

pub returns-in_err-insert-clause-kept : goal.returns-in_err-insert-clause-kept
returns-in_err-insert-clause-kept c = λ hash number.
    rw (c.in_err-insert.ensures.items) (still_reached c.args.self.now.buckets.items c.grow_buckets.new.buckets.items c.args.self.now.levels.items hash number (λ bucket. c.grow_buckets.ensures bucket hash number))

pub returns-clause-kept : goal.returns-clause-kept
returns-clause-kept c = λ hash number.
    rw (c.in_ok-insert.ensures.items) (λ reached. inr (still_reached c.args.self.now.buckets.items c.grow_buckets.new.buckets.items c.args.self.now.levels.items hash number (λ bucket. c.grow_buckets.ensures bucket hash number) reached))
