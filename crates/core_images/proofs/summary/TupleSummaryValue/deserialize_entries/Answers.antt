use Rattle.std.proofs.Common.{inr, arith}
use Rattle.std.proofs.lemmas.Result.{err_from_is_err_and}
use Rattle.core_images.specs.Summary.{SpellsTuple}
use Rattle.core_images.specs.SummarySpelling.{one_tuple, tuple_long}
use Rattle.core_images.proofs.ReadEntries.{too_many, next_of, step, refused_weaker}
use Rattle.core_images.proofs.ReadSummaries.{summary_behind, entry_read, none_short}
use Rattle.core_images.proofs.summary.TupleSummaryValue.deserialize_entries.Goals as goal

pub returns-then-bytes-count-clause-refused : goal.returns-then-bytes-count-clause-refused
returns-then-bytes-count-clause-refused g c =
    let spells = SpellsTuple g.Self.TupleSummaryValue.spells in
    inr (c.new.ensures, too_many spells 8 (tuple_long g.Self.TupleSummaryValue.spells) c.args.bytes.now c.args.count (omega arith) (omega arith))

pub returns-in_err-hash-clause-refused : goal.returns-in_err-hash-clause-refused
returns-in_err-hash-clause-refused g c =
    let p = err_from_is_err_and c.from_residual-in_err-hash.result c.from_residual-in_err-hash.ensures.1 in
    let value = g.Self.TupleSummaryValue in
    let inv = c.loop-i.invariant in
    rw (p.1, p.2) (inr (c.in_err-hash.ensures.refused, λ q. none_short value.spells c.loop-i.slice c.in_err-hash.ensures.short.limited (next_of (SpellsTuple value.spells) (one_tuple value.spells g.met.Self.TupleSummaryValue.one_spelling) c.args.bytes.now inv.0 c.loop-i.slice c.args.count c.loop-i._i c.loop-i.entries.items inv.1 inv.2 inv.3 c.loop-i-test.true q)))

pub returns-in_err-summary-clause-refused : goal.returns-in_err-summary-clause-refused
returns-in_err-summary-clause-refused g c =
    let p = err_from_is_err_and c.from_residual-in_err-summary.result c.from_residual-in_err-summary.ensures.1 in
    let value = g.Self.TupleSummaryValue in
    let inv = c.loop-i.invariant in
    let next = next_of (SpellsTuple value.spells) (one_tuple value.spells g.met.Self.TupleSummaryValue.one_spelling) c.args.bytes.now inv.0 c.loop-i.slice c.args.count c.loop-i._i c.loop-i.entries.items inv.1 inv.2 inv.3 c.loop-i-test.true in
    let behind = summary_behind value.spells c.loop-i.slice c.read_u64_le.new.self c.in_ok-hash.hash c.in_ok-hash.ensures.ok in
    rw (p.1, p.2) (refused_weaker c.in_err-summary.field-0.0 (λ q. behind (next q)) c.in_err-summary.ensures)

pub loop-i-preserved : goal.loop-i-preserved
loop-i-preserved g c =
    let value = g.Self.TupleSummaryValue in
    let spells = SpellsTuple value.spells in
    let one = one_tuple value.spells g.met.Self.TupleSummaryValue.one_spelling in
    let inv = c.loop-i.invariant in
    let found = entry_read value.spells c.loop-i.slice c.read_u64_le.new.self c.deserialize_value.new.slice c.in_ok-hash.hash c.in_ok-summary.summary c.in_ok-hash.ensures.ok c.in_ok-summary.ensures in
    rw (c.in_ok-push.ensures.items, c.of_hash.ensures) (step spells one c.args.bytes.now inv.0 c.loop-i.slice found.0 c.deserialize_value.new.slice c.loop-i.entries.items _ c.loop-i._i inv.1 inv.2 inv.3 found.1 found.2)
