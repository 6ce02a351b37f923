use Rattle.std.proofs.lemmas.Result.{on_ok_weaker}
use Rattle.ipnet_base.specs.Address.{ip_address}
use Rattle.ipnet_sets.specs.Members.{IsFromTo}
use Rattle.ipnet_sets.specs.Pushed.{IsPushed}
use Rattle.ipnet_lists.specs.EntryOf.{entry_range}
use Rattle.ipnet_lists.specs.FoundEntry.{entry_of}
use Rattle.ipnet_lists.proofs.RangeCovers.{has_more, ends_in_range}
use Rattle.ipnet_lists.proofs.list.AddressesCollectorIpSetBuilder.push.Goals as goal

pub returns : goal.returns
returns c =
    let first = ip_address c.ends-first.result.0 in
    let last = ip_address c.ends-first.result.1 in
    on_ok_weaker c.push_range.result
    (λ adds before has. has_more (IsPushed c.args.made.now) (IsPushed c.push_range.new.self) (IsFromTo first last)
    before (entry_of c.args.arg3.now c.args.entry)
    (ends_in_range first last (entry_range c.args.entry) c.ends-first.ensures.first c.ends-first.ensures.last) adds
    has)
    c.push_range.ensures.added
