use Rattle.std.proofs.Common.{◌≡◌, ◌+◌, ◌<◌, length, set, ◌∙◌, arith}
use Rattle.std.proofs.lemmas.List.{length-set}
use Rattle.keys_lines.proofs.Texts.{hashed_one, hashed_two, behind_shorter}
use Rattle.keys_lines.proofs.hashed_lines.hash_lines.Goals as goal

pub hash_pairs-preserved-in-Some : goal.hash_pairs-preserved-in-Some
hash_pairs-preserved-in-Some c =
    let was = c.hash_pairs.invariant in
    let hashes = c.hash_pairs.hashes in
    let count = c.hash_pairs.count in
    let rest = c.hash_pairs.rest.now in
    let others = c.in-Some.others.now in
    let begins = c.in-Some.ensures in
    let filled = set hashes count c.in-Some.first in
    let same : length (set filled (count + 1) c.in-Some.second) ≡ length hashes = length-set filled (count + 1) c.in-Some.second ∙ length-set hashes count c.in-Some.first in
    let room : count + 1 < length hashes = omega (arith, c.hash_pairs-test.true) in
    record {
      within = omega (arith, room, same);
      size = same ∙ was.size;
      hashed = hashed_two c.args.hashing c.args.text.now hashes rest others count c.in-Some.first c.in-Some.second room was.hashed begins;
      shorter = omega (arith, behind_shorter c.args.hashing rest begins.0 c.in-Some.first begins.1, behind_shorter c.args.hashing begins.0 others c.in-Some.second begins.2, was.shorter);
    }

pub hash_pairs-preserved : goal.hash_pairs-preserved
hash_pairs-preserved c =
    let was = c.hash_pairs.invariant in
    let hashes = c.hash_pairs.hashes in
    let count = c.hash_pairs.count in
    let found = c.in-Some-hash_first_line.found in
    let others = c.in-Some-hash_first_line.others.now in
    let begins = c.in-Some-hash_first_line.ensures.line in
    let same = length-set hashes count found in
    let room : count < length hashes = omega (arith, c.hash_pairs-test.true) in
    record {
      within = omega (arith, room, same);
      size = same ∙ was.size;
      hashed = hashed_one c.args.hashing c.args.text.now hashes c.hash_pairs.rest.now others count found room was.hashed begins;
      shorter = omega (arith, behind_shorter c.args.hashing c.hash_pairs.rest.now others found begins, was.shorter);
    }

pub returns-in-Some-hash_first_line-2-clause-lines :
    goal.returns-in-Some-hash_first_line-2-clause-lines
returns-in-Some-hash_first_line-2-clause-lines c =
    let found = c.in-Some-hash_first_line-2.found in
    hashed_one c.args.hashing c.args.text.now c.hash_pairs.hashes c.hash_pairs.rest.now c.in-Some-hash_first_line-2.others.now c.hash_pairs.count found c.if-count-hashes.true c.hash_pairs.invariant.hashed c.in-Some-hash_first_line-2.ensures.line
