use Rattle.std.proofs.Common.{◌≡◌, ◌∙◌, ap, inr, Ok}
use Rattle.std.proofs.lemmas.Result.{err_from_is_err_and}
use Rattle.core_images.specs.declared.preamble.ImageLayout.TheVariants.{Filled}
use Rattle.core_images.proofs.ReadEntries.{content_of, good_of, refused_weaker}
use Rattle.core_images.proofs.read.read_state.Goals as goal

pub returns-in_err-entries-in-Ok-Filled : goal.returns-in_err-entries-in-Ok-Filled
returns-in_err-entries-in-Ok-Filled g c =
    let p = err_from_is_err_and c.from_residual-in_err-entries-in-Ok-Filled.result c.from_residual-in_err-entries-in-Ok-Filled.ensures.1 in
    let inner : c.in-Ok-Filled.field-0 ≡ Filled c.in-Ok-Filled.p = rw c.in-Ok-Filled.is at c.in-Ok-Filled.field-0-is in
    let e : c.args.layout ≡ Ok (Filled c.in-Ok-Filled.p) = c.in-Ok-Filled.is ∙ ap Ok inner in
    let refused = rw c.split_at.ensures.back at c.in_err-entries-in-Ok-Filled.ensures.refused in
    rw (p.1, p.2, e) (refused_weaker c.in_err-entries-in-Ok-Filled.field-0.0 (content_of g.E.ImageEntry.spells g.met.E.ImageEntry.one_spelling g.E.SketchEntry.key c.args.bytes.now c.args.seed_hash c.in-Ok-Filled.p) refused)

pub returns-else-branch : goal.returns-else-branch
returns-else-branch g c =
    let inner : c.in-Ok-Filled.field-0 ≡ Filled c.in-Ok-Filled.p = rw c.in-Ok-Filled.is at c.in-Ok-Filled.field-0-is in
    let e : c.args.layout ≡ Ok (Filled c.in-Ok-Filled.p) = c.in-Ok-Filled.is ∙ ap Ok inner in
    let content = rw c.split_at.ensures.back at (c.in_ok-entries-in-Ok-Filled.ensures).ok in
    rw e (inr (
      c.new-else-branch.ensures,
      λ found.
          let good = good_of g.E.ImageEntry.spells g.met.E.ImageEntry.one_spelling g.E.SketchEntry.key c.args.bytes.now c.args.seed_hash c.in-Ok-Filled.p c.in_ok-entries-in-Ok-Filled.entries.items content found in
          let yes = (c.in_ok-are_entries-in-Ok-Filled.ensures).ok.1 (rw c.deref.ensures.value good) in
          cc (c.if-branch.false),
    ))
