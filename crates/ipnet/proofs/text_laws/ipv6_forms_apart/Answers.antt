-- Each pair of the three forms.
use Rattle.ipnet.proofs.Ipv6Forms.{groups_not_mixed, groups_not_compressed, mixed_not_compressed}
use Rattle.ipnet.proofs.text_laws.ipv6_forms_apart.Goals as goal

pub returns-clause-groups_or_ipv4 : goal.returns-clause-groups_or_ipv4
returns-clause-groups_or_ipv4 c = groups_not_mixed

pub returns-clause-groups_or_compressed : goal.returns-clause-groups_or_compressed
returns-clause-groups_or_compressed c = groups_not_compressed

pub returns-clause-ipv4_or_compressed : goal.returns-clause-ipv4_or_compressed
returns-clause-ipv4_or_compressed c = mixed_not_compressed
