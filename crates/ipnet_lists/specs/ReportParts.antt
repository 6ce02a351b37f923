-- The parts of a report.
use Rattle.std.specs.Prelude.{ℕ, List, decimal, flat_map}
use Rattle.ipnet_lists.specs.declared.report.Part.{Part}
use Rattle.ipnet_lists.specs.declared.report.Part.TheVariants.{Words, Number, Plain, Escaped}
use Rattle.ipnet_lists.specs.Reports.{escaped}

-- The text of a part.
abbrev pub part_text : Part → List ℕ
part_text (Words words) = words.now
part_text (Number number) = decimal number
part_text (Plain bytes) = bytes.now
part_text (Escaped bytes) = escaped bytes.now

-- The text of the parts, one after another. Example: `a`, `:` and the number 2 make `a:2`.
abbrev pub parts_text : List Part → List ℕ
parts_text parts = flat_map part_text parts
