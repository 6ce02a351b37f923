-- The stored ends determine the item and the rest (`RangeCallLaws`), so only the ends are proved of the code.
use Rattle.std.proofs.Common.{Some, None, rules}
use Rattle.ipnet_base.specs.Address.{ipv6_address}
use Rattle.ipnet_base.specs.Ranges.{IsNth}
use Rattle.ipnet_base.specs.RangeOf.{ipv6_range}
use Rattle.ipnet_base.proofs.RangeCallLaws.{IsNth-item, IsNth-left}
use Rattle.ipnet_base.proofs.ipext.ipv6_range.Ipv6AddrRange.nth.Goals as goal

pub returns-then-past_end : goal.returns-then-past_end
returns-then-past_end c =
    let n = c.args.n in
    let r = ipv6_range c.args.self.now in
    let s = ipv6_range c.use_up.new.self in
    let ends : IsNth n r None s = search rules in
    record { item = IsNth-item n r None s ends; left = IsNth-left n r None s ends; ends = ends }

pub returns : goal.returns
returns c =
    let n = c.args.n in
    let r = ipv6_range c.args.self.now in
    let s = ipv6_range c.if-item-self.self in
    let item = ipv6_address c.ipv6_from_number.result in
    let ends : IsNth n r (Some item) s = search rules in
    record { item = IsNth-item n r (Some item) s ends; left = IsNth-left n r (Some item) s ends; ends = ends }
