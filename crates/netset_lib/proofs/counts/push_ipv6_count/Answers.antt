use Rattle.std.proofs.Common.{codes, refl, string_bytes}
use Rattle.ipnet_base.specs.Address.{IPv6}
use Rattle.ipnet_sets.specs.Members.{IsMemberOf}
use Rattle.netset_lib.proofs.CountTexts.{all_counted, all_ipv6, count_written}
use Rattle.netset_lib.proofs.counts.push_ipv6_count.Goals as goal

-- 2 ^ 128, where no `u128` has the number
pub returns-in-None : goal.returns-in-None
returns-in-None c =
    count_written c.push_str.result (IsMemberOf IPv6 c.args.set.now) 340282366920938463463374607431768211456
    (string_bytes c.args.text.now) (string_bytes c.push_str.new.self) (codes "340282366920938463463374607431768211456")
    (all_counted c.args.set.now (c.in-None.ensures.none.0 refl)) all_ipv6 c.push_str.ensures.bytes
