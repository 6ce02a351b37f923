-- Each round adds the entry of a network.
use Rattle.ipnet_c.proofs.MapEntryLaws.{one_entry_more}
use Rattle.ipnet_c.proofs.map_entries.entries_of.Goals as goal

pub loop-network-preserved : goal.loop-network-preserved
loop-network-preserved c =
    one_entry_more c.loop-network.entries.items c.push.new.self.items c.loop-network.yielded c.in_ok-entry_of.field-0
    c.in-Some.network c.in_ok-push.ensures.items c.loop-network.invariant.0 c.loop-network.invariant.1
    c.in_ok-entry_of.ensures.network c.in_ok-entry_of.ensures.plain
