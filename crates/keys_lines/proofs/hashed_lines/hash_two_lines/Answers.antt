use Rattle.std.proofs.Common.{◌+◌, ◌-◌, ◌/◌, ◌^◌, ◌<◌, ◌≤◌, length, take, drop, arith}
use Rattle.std.specs.Int.{w64, trailing_zeros}
use Rattle.std.proofs.lemmas.List.{length-take, length-drop}
use Rattle.keys_lines.proofs.Cutting.{line_found, first_marked, second_marked}
use Rattle.keys_lines.proofs.hashed_lines.hash_two_lines.Goals as goal

pub returns : goal.returns
returns c =
    let hashing = c.args.hashing in
    let text = c.args.text.now in
    let ends = c.ends_in_window-ends.result in
    let first = trailing_zeros w64 ends in
    let behind = take (length text - (first + 1)) (drop (first + 1) text) in
    let second = trailing_zeros w64 (ends / 2 ^ (first + 1)) in
    let enough : 64 ≤ length text = c.if-text-lt-WINDOW.false in
    let short : first < 32 = c.if-first-ge-LANES.false in
    let short_too : second < 32 = c.if-second-ge-LANES.false in
    let room : 63 - first ≤ length behind = omega (arith, length-take (length text - (first + 1)) (drop (first + 1) text), length-drop (first + 1) text, enough, short) in (
      behind,
      line_found hashing text 64 first c.front_hash.result enough (first_marked ends 10 (take 64 text) (omega (arith, length-take 64 text)) c.ends_in_window-ends.ensures short) (omega (arith, short)) c.front_hash.ensures,
      line_found hashing behind (63 - first) second c.front_hash-2.result room (second_marked text ends first enough short c.ends_in_window-ends.ensures short_too) (omega (arith, short, short_too)) c.front_hash-2.ensures,
    )
