-- The values of a `Values`. Only private contracts use these.
use Rattle.std.specs.Prelude.{ℕ, List, [], ◌∷◌}
use Rattle.ipnet_fewest.specs.declared.values.Values.{Values}
use Rattle.ipnet_fewest.specs.declared.values.Values.TheVariants.{One, Many}

-- The values as a list.
abbrev pub items_of : Values → List ℕ
items_of (One value) = value ∷ []
items_of (Many list) = list.value.items
