-- Each turn reads the payload of one row more.
use Rattle.std.proofs.Common.{refl}
use Rattle.ipnet_c.specs.OriginReplies.{columns}
use Rattle.ipnet_c.proofs.OriginReplies.{payloads_more}
use Rattle.ipnet_c.proofs.origins.read_payloads.Goals as goal

pub unreachable-requires : goal.unreachable-requires
unreachable-requires c =
    let (vrp, is) = c.requires.good c.loop-index.index c.loop-index-test.true in
    c.in_default.ensures.none refl vrp is

pub loop-index-preserved : goal.loop-index-preserved
loop-index-preserved c =
    let rows = c.args.rows.now in
    payloads_more (columns rows.families.now rows.octets.now rows.lengths.now rows.asns.now) c.args.max_lens.now
    c.loop-index.index c.loop-index.payloads.items c.push.new.self.items c.in-Some.payload
    c.in_ok-push.ensures.items c.in-Some.ensures.some c.loop-index.invariant
