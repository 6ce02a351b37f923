-- The payloads of a value of `OriginTable`. Contracts see nothing else of a value.
use Rattle.std.specs.Prelude.{List}
use Rattle.ipnet_origins.specs.declared.origins.OriginTable.{OriginTable}
use Rattle.ipnet_origins.specs.declared.payload.Payload.{Payload}

-- The payloads of the table. They are in the order of their networks, and payloads of one network are in the order of
-- their AS numbers and then of their greatest lengths.
-- Example: of a table of 198.51.100.0/24 and 192.0.2.0/24: 192.0.2.0/24, then 198.51.100.0/24.
abbrev pub payloads_of : OriginTable → List Payload
payloads_of table = table.payloads.items
