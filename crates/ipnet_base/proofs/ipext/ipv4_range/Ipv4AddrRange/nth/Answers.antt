-- The stored ends determine the item and the rest (`RangeCallLaws`), so only the ends are proved of the code.
use Rattle.std.proofs.Common.{Some, None, rules}
use Rattle.ipnet_base.specs.Address.{ipv4_address}
use Rattle.ipnet_base.specs.Ranges.{IsNth}
use Rattle.ipnet_base.specs.RangeOf.{ipv4_range}
use Rattle.ipnet_base.proofs.RangeCallLaws.{IsNth-item, IsNth-left}
use Rattle.ipnet_base.proofs.ipext.ipv4_range.Ipv4AddrRange.nth.Goals as goal

pub returns-then-past_end : goal.returns-then-past_end
returns-then-past_end c =
    let n = c.args.n in
    let r = ipv4_range c.args.self.now in
    let s = ipv4_range c.use_up.new.self in
    let ends : IsNth n r None s = search rules in
    record { item = IsNth-item n r None s ends; left = IsNth-left n r None s ends; ends = ends }

pub returns : goal.returns
returns c =
    let n = c.args.n in
    let r = ipv4_range c.args.self.now in
    let s = ipv4_range c.if-item-self.self in
    let item = ipv4_address c.ipv4_from_number.result in
    let ends : IsNth n r (Some item) s = search rules in
    record { item = IsNth-item n r (Some item) s ends; left = IsNth-left n r (Some item) s ends; ends = ends }
