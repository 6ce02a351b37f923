-- Rows of registries and their blocks, as contracts see values of the code.
use Rattle.std.specs.Prelude.{List, map}
use Rattle.ipnet_base.specs.Address.{Family}
use Rattle.ipnet_base.specs.Network.{Network}
use Rattle.ipnet.specs.NetworkOf.{ip_network}
use Rattle.ipnet_info.specs.declared.registry.Row.{Row}
use Rattle.ipnet_info.specs.declared.purposes.SpecialPurpose.{SpecialPurpose}
use Rattle.ipnet_info.specs.Registries as registries
use Rattle.ipnet_info.specs.Registries.{SpecialBlock, special_block}

-- The row that a value represents, in the registry of this family.
abbrev pub block_of : Family → Row → SpecialBlock
block_of family row = special_block family row.0 row.1 row.2.now row.3.now

-- The rows that values represent.
abbrev pub blocks_of : Family → List Row → List SpecialBlock
blocks_of family rows = map (block_of family) rows

-- The row for a network that a value represents.
abbrev pub purpose_of : SpecialPurpose → registries.SpecialPurpose
purpose_of p = record {
  block = record { network = ip_network p.block; name = p.name.now; rfc = p.rfc.now };
  is_whole = p.is_whole;
}

-- The rows for a network that values represent.
abbrev pub purposes_of : List SpecialPurpose → List registries.SpecialPurpose
purposes_of list = map purpose_of list
