use Rattle.std.proofs.Common.{refl}
use Rattle.ipnet_info.specs.Registries.{ipv6_registry}
use Rattle.ipnet_info.proofs.RegistryLaws.{are_networks}
use Rattle.ipnet_info.proofs.registry.ipv6_rows.Goals as goal

pub returns-clause-rows : goal.returns-clause-rows
returns-clause-rows c = refl

pub returns-clause-networks : goal.returns-clause-networks
returns-clause-networks c = are_networks ipv6_registry refl
