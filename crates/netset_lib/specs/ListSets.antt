-- The sets of lists.
use Rattle.std.specs.Prelude.{List, [], ◌∷◌}
use Rattle.ipnet_sets.specs.declared.set.IpSet.{IpSet}
use Rattle.ipnet_sets.specs.Members.{IsMember}
use Rattle.ipnet_lists.specs.Lists.{ListEntry, HaveAddresses}

-- Each set has the addresses of the entries at its index, and there are as many sets as lists of entries.
abbrev pub HaveMembers : List IpSet → List (List ListEntry) → Type 0
HaveMembers [] [] = Unit {0}
HaveMembers [] (entries ∷ others) = ⊥
HaveMembers (set ∷ sets) [] = ⊥
HaveMembers (set ∷ sets) (entries ∷ others) = HaveAddresses (IsMember set) entries × HaveMembers sets others
