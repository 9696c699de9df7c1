use Rattle.std.proofs.Common.{[], ap}
use Rattle.keys_sums.proofs.UnitedSums.{no_sums_united}
use Rattle.keys_sums.proofs.uniting.new_batch.Goals as goal

pub returns-clause-united : goal.returns-clause-united
returns-clause-united g c = c.new.ensures.united c.args.seed (record { mode = c.args.mode; lg_k = c.args.lg_k }) [] (no_sums_united c.args.mode c.args.seed c.args.lg_k c.in_ok-union.union.union.state c.in_ok-union.ensures.mode c.in_ok-union.ensures.made)

pub returns-clause-ready : goal.returns-clause-ready
returns-clause-ready g c =
    let made = c.in_ok-union.ensures.made in
    c.new.ensures.ready c.args.seed (record { mode = c.args.mode; lg_k = c.args.lg_k }) (record { same_mode = c.in_ok-union.ensures.mode; ready = record { sound = ap (λ u. u.failed) made; seeded = ap (λ u. u.seed_hash) made } })
