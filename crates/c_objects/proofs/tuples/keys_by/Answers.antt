use Rattle.std.proofs.Common.{ℕ, List, sym, subst, ap, ◌∙◌}
use Rattle.core_compact.specs.CompactState.{IsCompact}
use Rattle.core_images.specs.Entry.{SpellsHash, SpellsEach}
use Rattle.core_laws.specs.Entries.{hash_key}
use Rattle.c_objects.specs.Status.{IsUnreadStatus, status_of}
use Rattle.c_objects.specs.Tuples.{state_in, order_in, keys_by}
use Rattle.c_objects.proofs.Keys.{read_keys, keys_unread}
use Rattle.c_objects.proofs.tuples.keys_by.Goals as goal

pub returns-in-Ok-read_after_preamble-clause-made : goal.returns-in-Ok-read_after_preamble-clause-made
returns-in-Ok-read_after_preamble-clause-made c =
    let hashes = c.args.hashes.now in let layout = c.args.layout in
    let spelled = subst (λ (bytes : List ℕ). SpellsEach SpellsHash bytes hashes) (sym c.as_slice.ensures.value) c.in-Ok.ensures.spelled in
    read_keys (state_in layout) (order_in layout) c.args.seed_hash c.as_slice.result.now hashes spelled layout c.in-Ok-read_after_preamble.state
    c.requires.layout c.in-Ok-read_after_preamble.ensures

pub returns-clause-refused : goal.returns-clause-refused
returns-clause-refused c =
    let hashes = c.args.hashes.now in let layout = c.args.layout in let h = c.args.seed_hash in
    let spelled = subst (λ (bytes : List ℕ). SpellsEach SpellsHash bytes hashes) (sym c.as_slice.ensures.value) c.in-Ok.ensures.spelled in
    let is = c.status_of.ensures.status ∙ ap status_of (c.kind.ensures ∙ c.from.ensures) in
    subst (IsUnreadStatus (IsCompact hash_key (keys_by layout h hashes))) (sym is)
    (keys_unread (state_in layout) (order_in layout) h c.as_slice.result.now hashes spelled layout _ c.in-Err-read_after_preamble.reason
    c.requires.layout c.in-Err-read_after_preamble.ensures)
