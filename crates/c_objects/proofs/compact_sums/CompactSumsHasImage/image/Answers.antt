use Rattle.std.proofs.Common.{ℕ, List, [], sym, subst, ◌∙◌, append-nil}
use Rattle.std.specs.Int.{w64, to_le_bytes}
use Rattle.core_images.specs.Summary.{SpellsNumber}
use Rattle.tuple_sketches.specs.Image.{Reads, written}
use Rattle.c_objects.proofs.compact_sums.CompactSumsHasImage.image.Goals as goal

pub returns-in-Ok-clause-image : goal.returns-in-Ok-clause-image
returns-in-Ok-clause-image c =
    let s = c.args.self.now.sketch in let e = c.in-Ok.ensures in (
      e.ok,
      record {
        is_read = λ low. subst (λ (bs : List ℕ). Reads (SpellsNumber 8) bs s.seed_hash s) (append-nil (written (λ sum. to_le_bytes w64 sum) s) ∙ sym e.ok)
            (c.read_again.ensures s [] e.sound e.values low e.short);
        alone = e.read_back;
      },
    )
