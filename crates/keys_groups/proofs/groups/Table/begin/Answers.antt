use Rattle.std.proofs.Common.{◌≡◌, Some, arith, length, sym, ap, ◌∙◌, subst}
use Rattle.std.proofs.lemmas.List.{length-map}
use Rattle.keys_sketches.specs.Keys.{new_state, with_line}
use Rattle.keys_sketches.proofs.Takings.{state_after_line}
use Rattle.keys_groups.specs.Names.{texts_of, AreNamed}
use Rattle.keys_groups.specs.States.{Changes}
use Rattle.keys_groups.proofs.LinesInGroups.{begun_group, more_named}
use Rattle.keys_groups.proofs.groups.Table.begin.Goals as goal

pub returns-clause-begun : goal.returns-clause-begun
returns-clause-begun c =
    let grouping = c.args.grouping in
    let hashing = grouping.hashing in
    let entries = c.args.self.now.entries.items in
    let state = with_line hashing (new_state hashing.seed grouping.lg_k) c.args.line.now in
    let made : _ ≡ state =
    state_after_line hashing c.in_ok-sketch.sketch c.update_hash.new.self c.key_hash.result c.args.line.now c.key_hash.ensures c.in_ok-update_hash.ensures.after c.in_ok-update_hash.ensures.nonempty
    ∙ ap (λ s. with_line hashing s c.args.line.now) c.in_ok-sketch.ensures.new in
    subst (λ es. Changes c.args.name.now (Some state) entries es) (sym c.in_ok-push.ensures.items)
    (begun_group grouping entries c.args.name.now c.in_ok-key.key c.update_hash.new.self state c.in_ok-key.ensures.items c.requires.absent made)

pub returns-clause-named : goal.returns-clause-named
returns-clause-named c =
    let entries = c.args.self.now.entries.items in
    let texts = texts_of entries in
    let counted : c.len.result ≡ length texts = omega (arith, c.len.ensures, c.args.self.now.entries.ok.0, length-map entries (λ e. e.0.items)) in
    subst (AreNamed c.add.new.self) (sym c.in_ok-push.ensures.items)
    (more_named c.args.grouping c.args.self.now.index c.add.new.self entries c.args.name.now c.in_ok-key.key c.update_hash.new.self c.requires.named c.in_ok-key.ensures.items c.requires.absent
    (c.in_ok-add.ensures texts counted c.requires.named.found c.requires.absent))
