use Rattle.c_objects.proofs.Read.{image_read}
use Rattle.c_objects.proofs.compact.CompactSketchHasImage.image.Goals as goal

pub returns-in-Ok-clause-image : goal.returns-in-Ok-clause-image
returns-in-Ok-clause-image c =
    let s = c.args.self.now.sketch in let e = c.in-Ok.ensures in
    (e.ok, image_read s c.in-Ok.image.items e.sound e.short e.ok e.read_back)
