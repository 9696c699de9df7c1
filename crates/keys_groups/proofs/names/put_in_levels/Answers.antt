use Rattle.std.proofs.Common.{◌≡◌, sym, inl, subst, refl}
use Rattle.keys_groups.specs.Names.{mark_of, HasMark, IsReachedIn}
use Rattle.keys_groups.proofs.names.put_in_levels.Goals as goal

pub returns-then-put_in_bucket-clause-put : goal.returns-then-put_in_bucket-clause-put
returns-then-put_in_bucket-clause-put c = λ _ number next.
    let mark : record { tag = c.tag_of.result; next = c.args.next } ≡ mark_of c.args.hash number = λ i. record { tag = c.tag_of.ensures i; next = next i } in
    let put = c.if-put_in_bucket.ensures.put refl c.args.hash number mark in
    c.loop-level.invariant.within c.put_in_bucket.new.buckets.items number
    (subst (λ levels. IsReachedIn c.put_in_bucket.new.buckets.items levels c.args.hash number) (sym c.in-Some.ensures.cases.0)
    (inl (subst (λ bucket. HasMark c.put_in_bucket.new.buckets.items bucket c.args.hash number) c.bucket_of.ensures put)))
