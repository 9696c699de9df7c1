use Rattle.core_images.specs.Head.{theta_head, tuple_head}
use Rattle.core_images.proofs.ImageLayouts.{layout_whole, theta_whole, tuple_whole}
use Rattle.calls_base.proofs.image_object.layout_in.Goals as goal

pub returns-then-is_tuple : goal.returns-then-is_tuple
returns-then-is_tuple c =
    let bytes = c.args.bytes.now in
    rw (c.layout_of.ensures, c.tuple_head-head.ensures) (layout_whole 16 bytes c.reader_seed_hash-seed_hash.result (tuple_head 16 bytes) (tuple_whole 16 bytes))

pub returns : goal.returns
returns c =
    let bytes = c.args.bytes.now in
    rw (c.layout_of-2.ensures, c.theta_head-theta.ensures) (layout_whole 8 bytes c.reader_seed_hash-seed_hash.result (theta_head bytes) (theta_whole bytes))
