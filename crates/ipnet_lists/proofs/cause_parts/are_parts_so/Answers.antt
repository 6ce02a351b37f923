use Rattle.ipnet_lists.proofs.cause_parts.are_parts_so.Goals as goal

pub returns-in-Backwards : goal.returns-in-Backwards
returns-in-Backwards c = rw c.in-Backwards.is c.are_backwards.ensures

pub returns-in-Apart : goal.returns-in-Apart
returns-in-Apart c = rw c.in-Apart.is c.are_apart.ensures

pub returns-in-Entries : goal.returns-in-Entries
returns-in-Entries c = rw c.in-Entries.is c.are_entries.ensures

pub returns-in-TwoIpv4 : goal.returns-in-TwoIpv4
returns-in-TwoIpv4 c = rw c.in-TwoIpv4.is c.are_ipv4.ensures

pub returns-in-EntryFirst : goal.returns-in-EntryFirst
returns-in-EntryFirst c = rw c.in-EntryFirst.is c.is_entry.ensures

pub returns-in-Ipv4First : goal.returns-in-Ipv4First
returns-in-Ipv4First c = rw c.in-Ipv4First.is c.is_ipv4.ensures

pub returns-in-Ipv6First : goal.returns-in-Ipv6First
returns-in-Ipv6First c = rw c.in-Ipv6First.is c.is_ipv6.ensures
