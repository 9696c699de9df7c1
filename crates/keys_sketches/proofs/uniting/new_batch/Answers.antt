use Rattle.std.proofs.Common.{[], ap}
use Rattle.keys_sketches.proofs.Unions.{nothing_united}
use Rattle.keys_sketches.proofs.uniting.new_batch.Goals as goal

pub returns-clause-united : goal.returns-clause-united
returns-clause-united g c = c.new.ensures.united c.args.seed c.args.lg_k [] (nothing_united c.args.seed c.args.lg_k c.in_ok-union.union c.in_ok-union.ensures.made)

pub returns-clause-ready : goal.returns-clause-ready
returns-clause-ready g c =
    let made = c.in_ok-union.ensures.made in
    c.new.ensures.ready c.args.seed c.args.lg_k (record { sound = ap (λ u. u.failed) made; seeded = ap (λ u. u.seed_hash) made })
