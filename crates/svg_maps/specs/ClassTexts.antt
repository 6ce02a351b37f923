-- The names of the classes of a map in its style sheet.
use Rattle.std.specs.Prelude.{ℕ, List, ◌++◌, codes, decimal}
use Rattle.ipnet_maps.specs.declared.class.Class.{Class}
use Rattle.ipnet_maps.specs.declared.class.Class.TheVariants as Classes

-- The name of the class. Example: `s4` for cells of which one set has all addresses, and `l0 pale` for cells of which
-- the first of several sets has a part.
abbrev pub class_text : Class → List ℕ
class_text Classes.Sparse = codes "s1"
class_text Classes.BelowQuarter = codes "s2"
class_text Classes.FromQuarter = codes "s3"
class_text Classes.Whole = codes "s4"
class_text Classes.Removed = codes "old"
class_text Classes.Added = codes "new"
class_text Classes.Mixed = codes "mix"
class_text Classes.KeptPart = codes "bothp"
class_text Classes.KeptWhole = codes "both"
class_text Classes.Overlap = codes "ov"
class_text Classes.Several = codes "sev"
class_text (Classes.PartOf place) = codes "l" ++ decimal place ++ codes " pale"
class_text (Classes.WholeOf place) = codes "l" ++ decimal place
