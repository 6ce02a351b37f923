-- The stored ends determine the item and the rest (`RangeCallLaws`), so only the ends are proved of the code.
use Rattle.std.proofs.Common.{Some, None, rules}
use Rattle.ipnet_base.specs.Address.{ipv4_address}
use Rattle.ipnet_base.specs.Ranges.{IsNthBack}
use Rattle.ipnet_base.specs.RangeOf.{ipv4_range}
use Rattle.ipnet_base.proofs.RangeCallLaws.{IsNthBack-item, IsNthBack-left}
use Rattle.ipnet_base.proofs.ipext.ipv4_range.Ipv4AddrRange.nth_back.Goals as goal

pub returns-then-past_start : goal.returns-then-past_start
returns-then-past_start c =
    let n = c.args.n in
    let r = ipv4_range c.args.self.now in
    let s = ipv4_range c.use_up.new.self in
    let ends : IsNthBack n r None s = search rules in
    record { item = IsNthBack-item n r None s ends; left = IsNthBack-left n r None s ends; ends = ends }

pub returns : goal.returns
returns c =
    let n = c.args.n in
    let r = ipv4_range c.args.self.now in
    let s = ipv4_range c.if-self-item.self in
    let item = ipv4_address c.ipv4_from_number.result in
    let ends : IsNthBack n r (Some item) s = search rules in
    record { item = IsNthBack-item n r (Some item) s ends; left = IsNthBack-left n r (Some item) s ends; ends = ends }
