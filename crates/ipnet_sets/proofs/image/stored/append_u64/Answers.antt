use Rattle.ipnet_sets.proofs.ImageLaws.{appended_eight}
use Rattle.ipnet_sets.proofs.image.stored.append_u64.Goals as goal

pub returns : goal.returns
returns c =
    appended_eight c.args.number c.args.bytes.now.items c.extend_from_slice.new.self.items c.to_le_bytes-eight.result
    c.ranges.number.fits c.to_le_bytes-eight.ensures c.in_ok-extend_from_slice.ensures.items
