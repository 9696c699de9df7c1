use Rattle.std.proofs.Common.{◌∙◌, sym, ap}
use Rattle.core_images.specs.Head.{flaw_of_image, tuple_head, theta_head, length_of}
use Rattle.keys_sketches.specs.declared.header.Flaw.TheVariants.{Hexadecimal, Image}
use Rattle.c_objects.specs.Tuples.{tuple_flaw_of, least_length}
use Rattle.c_objects.proofs.Keys.{hexadecimal_as, image_as, found_as}
use Rattle.c_objects.proofs.tuples.tuple_finding.Goals as goal

pub returns-in-Hexadecimal : goal.returns-in-Hexadecimal
returns-in-Hexadecimal c =
    let h = c.args.seed_hash in let bytes = c.args.image.now in
    let is = hexadecimal_as bytes (flaw_of_image bytes h (theta_head bytes)) (flaw_of_image bytes h (tuple_head 8 bytes)) (sym c.flaw_of.ensures ∙ c.in-Hexadecimal.is) in
    let long = sym (c.length_of-length.ensures ∙ ap length_of c.tuple_head-head.ensures) in
    found_as (tuple_flaw_of h bytes) Hexadecimal (least_length bytes) c.length_of-length.result c.finding_of.result is long c.finding_of.ensures

pub returns-in-Image : goal.returns-in-Image
returns-in-Image c =
    let h = c.args.seed_hash in let bytes = c.args.image.now in let flaw = c.flaw_of_image-flaw.result in
    let is = image_as bytes (flaw_of_image bytes h (theta_head bytes)) (flaw_of_image bytes h (tuple_head 8 bytes)) c.in-Image.field-0 (sym c.flaw_of.ensures ∙ c.in-Image.is) in
    let same = ap Image (sym (c.flaw_of_image-flaw.ensures ∙ ap (flaw_of_image bytes h) c.tuple_head-head.ensures)) in
    let long = sym (c.length_of-length.ensures ∙ ap length_of c.tuple_head-head.ensures) in
    found_as (tuple_flaw_of h bytes) (Image flaw) (least_length bytes) c.length_of-length.result c.finding_of-in-Image.result (is ∙ same) long c.finding_of-in-Image.ensures
