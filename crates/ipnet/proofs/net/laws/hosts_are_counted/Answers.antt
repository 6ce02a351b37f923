-- There are as many hosts as addresses, or two fewer, and of these there are a power of two by the family and the
-- prefix length.
use Rattle.std.proofs.Common.{◌-◌, ◌^◌, ◌∙◌, ap, ap₂, arith}
use Rattle.ipnet_base.specs.Address.{width}
use Rattle.ipnet.proofs.HostLaws.{inner_count, whole_count, whole_from_31, whole_ipv6}
use Rattle.ipnet.proofs.net.laws.hosts_are_counted.Goals as goal

pub returns-clause-ipv4_below_31 : goal.returns-clause-ipv4_below_31
returns-clause-ipv4_below_31 c n hosts f short h =
    inner_count n hosts (f, short) h ∙ ap (λ family. 2 ^ (width family - n.prefix_len) - 2) f

pub returns-clause-ipv4_at_31 : goal.returns-clause-ipv4_at_31
returns-clause-ipv4_at_31 c n hosts f len h =
    whole_count n hosts (whole_from_31 n (omega (arith, len))) h ∙ ap₂ (λ family p. 2 ^ (width family - p)) f len

pub returns-clause-ipv4_at_32 : goal.returns-clause-ipv4_at_32
returns-clause-ipv4_at_32 c n hosts f len h =
    whole_count n hosts (whole_from_31 n (omega (arith, len))) h ∙ ap₂ (λ family p. 2 ^ (width family - p)) f len

pub returns-clause-ipv6 : goal.returns-clause-ipv6
returns-clause-ipv6 c n hosts f h =
    whole_count n hosts (whole_ipv6 n f) h ∙ ap (λ family. 2 ^ (width family - n.prefix_len)) f
