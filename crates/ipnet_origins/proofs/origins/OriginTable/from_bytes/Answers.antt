-- The image was tested, so it has payloads.
use Rattle.std.proofs.Common.{sym, subst}
use Rattle.ipnet_origins.specs.OriginImages.{HasPayloads}
use Rattle.ipnet_origins.proofs.origins.OriginTable.from_bytes.Goals as goal

pub read_table-requires : goal.read_table-requires
read_table-requires c =
    let (same, image) = c.in_ok-image.ensures in
    subst HasPayloads (sym same) image.1
