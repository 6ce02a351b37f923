use Rattle.ipnet_sets.proofs.ImageLaws.{appended_sixteen}
use Rattle.ipnet_sets.proofs.image.stored.append_u128.Goals as goal

pub returns : goal.returns
returns c =
    appended_sixteen c.args.number c.args.bytes.now.items c.append_u64.new.bytes.items c.append_u64-2.new.bytes.items
    c.in_ok-append_u64.ensures c.in_ok-append_u64-2.ensures
