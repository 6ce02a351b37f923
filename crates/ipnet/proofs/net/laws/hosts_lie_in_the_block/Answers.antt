-- By whether the ends of the block are reserved, which depends on the family and the prefix length.
use Rattle.ipnet.proofs.HostLaws.{inner_hosts, whole_hosts, whole_from_31, whole_ipv6}
use Rattle.ipnet.proofs.net.laws.hosts_lie_in_the_block.Goals as goal

pub returns-clause-ipv4_below_31 : goal.returns-clause-ipv4_below_31
returns-clause-ipv4_below_31 c n hosts x f short = inner_hosts n hosts x (f, short)

pub returns-clause-ipv4_from_31 : goal.returns-clause-ipv4_from_31
returns-clause-ipv4_from_31 c n hosts x f long = whole_hosts n hosts x (whole_from_31 n long)

pub returns-clause-ipv6 : goal.returns-clause-ipv6
returns-clause-ipv6 c n hosts x f = whole_hosts n hosts x (whole_ipv6 n f)
