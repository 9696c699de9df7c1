use Rattle.std.proofs.Common.{◌≡◌, ◌<◌, ◌≤◌, ◌++◌, ℕ, List, map, sym, ap, ◌∙◌, arith}
use Rattle.std.proofs.lemmas.Bool.Decides.{nat_tests}
use Rattle.std.proofs.lemmas.Nat.{le_or_r}
use Rattle.core_images.specs.Check.{ascends_from}
use Rattle.core_laws.specs.declared.TheConstants.{MAX_THETA}
use Rattle.core_images.proofs.Chunks.{differs_up, next_above, none_above}
use Rattle.core_images.proofs.blocks.subtract_block.Goals as goal

pub returns : goal.returns
returns g c =
    let key = λ (text : List ℕ). g.E.SketchEntry.key (g.E.FixedEntry.entry_of text) in
    λ both others.
    let high : MAX_THETA < c.loop-text.differences = grind (arith, nat_tests, both) in
    let low : c.loop-text.hashes ≤ MAX_THETA = grind (arith, nat_tests, both) in
    none_above key c.args.block.now c.loop-text.text-index c.loop-text.last (λ others. ascends_from c.args.before (map key c.args.block.now ++ others)) c.loop-text-test.false (c.loop-text.invariant.0 high low) others

pub loop-text-preserved : goal.loop-text-preserved
loop-text-preserved g c =
    let key = λ (text : List ℕ). g.E.SketchEntry.key (g.E.FixedEntry.entry_of text) in
    let inv = c.loop-text.invariant in
    let hash : c.hash-hash.result ≡ key c.text-item.result = c.hash-hash.ensures ∙ ap g.E.SketchEntry.key c.of_text.ensures in (
      λ high low.
          let up = differs_up c.loop-text.differences c.loop-text.last c.hash-hash.result c.loop-text.hashes inv.1 c.loop-text.auto.last-fits.fits c.hash-hash.type_inv high low in
          rw hash (next_above key c.args.block.now c.loop-text.text-index c.text-item.result c.loop-text.last (λ others. ascends_from c.args.before (map key c.args.block.now ++ others)) c.loop-text-test.true c.text-item.is (rw (sym hash) (up.0)) (inv.0 up.1 up.2)),
      le_or_r c.loop-text.hashes c.hash-hash.result,
    )
