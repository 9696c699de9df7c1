use mathlib.Core.Bool.{false≢true}
use Rattle.std.proofs.Common.{arith}
use Rattle.keys_sketches.proofs.Takings.{state_after_line}
use Rattle.keys_groups.specs.declared.groups.Grouping.{Grouping}
use Rattle.keys_groups.proofs.NamedEntries.{entry_got, number_within}
use Rattle.keys_groups.proofs.LinesInGroups.{updated_group, still_named}
use Rattle.keys_groups.proofs.groups.Table.update.Goals as goal

pub returns-in_ok-update_hash-in-Some-clause-updated : goal.returns-in_ok-update_hash-in-Some-clause-updated
returns-in_ok-update_hash-in-Some-clause-updated c =
    let entries = c.args.self.now.entries.items in
    let entry = c.in-Some.entry.now in
    let new = c.update_hash.new.self in
    let grouping : Grouping = record { by = c.args.hashing.key; hashing = c.args.hashing; lg_k = 0 } in
    updated_group grouping entries c.args.number c.args.name.now c.args.line.now entry new c.requires.named.distinct c.requires.here (entry_got entries c.args.number c.args.name.now entry c.requires.here c.in-Some.ensures.value)
    (state_after_line c.args.hashing entry.1 new c.key_hash.result c.args.line.now c.key_hash.ensures c.in_ok-update_hash-in-Some.ensures.after c.in_ok-update_hash-in-Some.ensures.nonempty)

pub returns-in_ok-update_hash-in-Some-clause-named : goal.returns-in_ok-update_hash-in-Some-clause-named
returns-in_ok-update_hash-in-Some-clause-named c =
    let entries = c.args.self.now.entries.items in
    let entry = c.in-Some.entry.now in
    let grouping : Grouping = record { by = c.args.hashing.key; hashing = c.args.hashing; lg_k = 0 } in
    still_named grouping c.args.self.now.index entries c.args.number c.args.name.now entry c.update_hash.new.self c.requires.named c.requires.here (entry_got entries c.args.number c.args.name.now entry c.requires.here c.in-Some.ensures.value)

pub returns-in-None-clause-updated : goal.returns-in-None-clause-updated
returns-in-None-clause-updated c =
    absurd (false≢true (c.in-None.ensures.variant.1 (omega (arith, number_within c.args.self.now.entries.items c.args.number c.args.name.now c.requires.here, c.args.self.now.entries.ok.0))))
