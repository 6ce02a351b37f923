use Rattle.ipnet.specs.NetworkOf.{ip_network}
use Rattle.svg_maps.proofs.EntryLaws.{found_added}
use Rattle.svg_maps.proofs.entry.entry_outlines.Goals as goal

pub loop-entry-preserved : goal.loop-entry-preserved
loop-entry-preserved c =
    found_added c.args.counted.now (ip_network c.args.frame.now) c.args.depth c.args.entries.now
    c.loop-entry.entry-index c.entry-item.result c.in_ok-found.found c.loop-entry.outlines.items
    c.push_found.new.outlines.items c.loop-entry-test.true c.entry-item.is c.loop-entry.invariant
    c.in_ok-found.ensures c.in_ok-push_found.ensures
