use Rattle.core_images.proofs.ReadAgain.{written_again}
use Rattle.core_images.proofs.laws.read_as_written.Goals as goal

pub returns : goal.returns
returns g c s family kind rest w v small =
    let x = g.X.ImageEntry in
    written_again g.X.SketchEntry.key x.spells x.text x.is_value g.met.X.ImageEntry.text_spells family kind rest s w v small
