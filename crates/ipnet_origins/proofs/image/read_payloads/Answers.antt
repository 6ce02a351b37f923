-- Each turn reads one payload of the image.
use Rattle.std.proofs.Common.{◌<◌, refl, arith}
use Rattle.ipnet_origins.specs.OriginImages.{stated_payloads}
use Rattle.ipnet_origins.proofs.RecordLaws.{read_more}
use Rattle.ipnet_origins.proofs.image.read_payloads.Goals as goal

pub unreachable-requires : goal.unreachable-requires
unreachable-requires c =
    let inside : c.loop-index.index < stated_payloads c.args.image.now.bytes.now
    = omega (arith, c.loop-index-test.true, c.len-index-end.ensures) in
    let (vrp, is) = c.requires c.loop-index.index inside in
    c.in_default.ensures.none refl inside vrp is

pub loop-index-preserved : goal.loop-index-preserved
loop-index-preserved c =
    read_more c.args.image.now.bytes.now c.loop-index.payloads.items c.push.new.self.items c.loop-index.index
    c.in-Some.payload c.in_ok-push.ensures.items c.in-Some.ensures.some.1 c.loop-index.invariant
