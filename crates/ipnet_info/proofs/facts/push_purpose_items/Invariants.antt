-- The rows before the others are written.
use Rattle.std.proofs.Common.{◌≡◌, ◌++◌, true, drop, map, string_bytes}
use Rattle.ipnet_info.specs.Facts.{items, purpose_item}
use Rattle.ipnet_info.specs.RegistryRows.{purposes_of}
use Rattle.ipnet_info.proofs.facts.push_purpose_items.Given as goal

abbrev pub invariant-loop-purpose : goal.invariant-loop-purpose
invariant-loop-purpose l =
    string_bytes l.text
    ++ items l.form l.is_first (map (purpose_item l.form) (purposes_of (drop l.purpose-index l.purposes)))
    ≡ string_bytes l.fn.text ++ items l.form true (map (purpose_item l.form) (purposes_of l.purposes))
