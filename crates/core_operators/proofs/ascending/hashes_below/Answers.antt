use Rattle.std.proofs.Common.{◌≡◌, ◌∷◌, ◌++◌, Some, None, sym, ap, ◌∙◌, arith}
use Rattle.std.proofs.lemmas.Bool.Decides.{nat_tests}
use Rattle.std.proofs.lemmas.List.{append-nil}
use Rattle.core_laws.specs.Entries.{hash_key}
use Rattle.core_laws.proofs.maps.Ascending.{ascending-tail}
use Rattle.core_operators.proofs.DifferenceEntries.{below_more, stops}
use Rattle.core_operators.proofs.ascending.hashes_below.Goals as goal
use Rattle.core_operators.proofs.ascending.hashes_below.Goals.{in-None, in-Some+then-is_past}

pub loop-hash-preserved : goal.loop-hash-preserved
loop-hash-preserved g c =
    let was = c.loop-hash.invariant in
    let left = g.T.KeySketch.rest c.next.new.self in
    let shape : g.T.KeySketch.rest c.loop-hash.hash-iterator ≡ c.in-Some.hash ∷ left = g.met.T.KeySketch.yields c.loop-hash.hash-iterator (Some c.in-Some.hash) c.next.new.self c.in-Some.ensures.steps in
    record {
      may_go_on = g.met.T.KeySketch.may_go_on c.next.new.self;
      ends = g.met.T.KeySketch.ends c.next.new.self;
      rest = rw (c.in_ok-push.ensures.items, c.of_hash.ensures) (below_more c.loop-hash.keys.items c.in-Some.hash left c.args.theta (grind (arith, nat_tests, c.if-hash-theta.false))) ∙ rw shape at was.rest;
      in_order = λ e. ascending-tail hash_key c.in-Some.hash left (rw shape at (was.in_order e));
    }

pub returns-clause-ok : goal.returns-clause-ok
returns-clause-ok g c =
    let was = c.loop-hash.invariant in
    let done = c.loop-hash.keys.items in
    sym (append-nil done) ∙
    elim c.match-next.branch [
      | in-None w ↦
          let none = g.met.T.KeySketch.yields c.loop-hash.hash-iterator None c.next.new.self w.in-None.ensures.steps in
          rw none.0 at was.rest
      | in-Some+then-is_past w ↦
          let left = g.T.KeySketch.rest c.next.new.self in
          let shape : g.T.KeySketch.rest c.loop-hash.hash-iterator ≡ w.in-Some.hash ∷ left = g.met.T.KeySketch.yields c.loop-hash.hash-iterator (Some w.in-Some.hash) c.next.new.self w.in-Some.ensures.steps in
          let past = w.is_past.ensures.0 w.if-is_past.true in
          ap (λ zs. done ++ zs) (sym (stops hash_key w.in-Some.hash left c.args.theta (rw shape at (was.in_order past.0)) past.1)) ∙ rw shape at was.rest
    ]
