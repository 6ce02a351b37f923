use Rattle.ipnet_base.specs.Address.{ip_address}
use Rattle.ipnet_sets.specs.Members.{IsMember, IsFromTo}
use Rattle.ipnet_sets.specs.SetRanges.{IsInRange}
use Rattle.ipnet_lists.specs.EntryOf.{entry_range}
use Rattle.netset_lib.proofs.FilterLaws.{covers_same, range_fits}
use Rattle.ipnet_lists.proofs.RangeCovers.{ends_in_range}
use Rattle.netset_lib.proofs.filter.covers_entry.Goals as goal

pub returns : goal.returns
returns c =
    let first = ip_address c.ends-first.result.0 in
    let last = ip_address c.ends-first.result.1 in
    let range = entry_range c.args.entry in
    let same = ends_in_range first last range c.ends-first.ensures.first c.ends-first.ensures.last in
    record {
      covers = covers_same (IsFromTo first last) (IsInRange range) (IsMember c.args.set.now) c.covers_range.result same
          c.covers_range.ensures;
      fits = range_fits first last range c.address_fits.ensures same;
    }
