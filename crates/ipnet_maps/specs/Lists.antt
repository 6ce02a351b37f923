-- The sets that a map shows: one set, a change, or several sets. Only private contracts use these.
use Rattle.std.specs.Prelude.{◌≡◌, ◌↔◌, ℕ, ◌<◌, List, Any}
use Rattle.ipnet_base.specs.Address.{Address}
use Rattle.ipnet_base.specs.Network.{Network}
use Rattle.ipnet_base.specs.Blocks.{IsInEither}
use Rattle.ipnet_sets.specs.declared.set.IpSet.{IpSet}
use Rattle.ipnet_sets.specs.Members.{IsMember}
use Rattle.ipnet_sets.specs.Parts.{IsInPart}
use Rattle.ipnet_maps.specs.declared.class.Class.{Class}
use Rattle.ipnet_maps.specs.declared.drawing.Drawing.{Drawing}
use Rattle.ipnet_maps.specs.declared.drawing.Lists.{Lists}
use Rattle.ipnet_maps.specs.declared.drawing.Lists.TheVariants.{One, Change, Several}
use Rattle.ipnet_maps.specs.Classes.{HasLevelClass, level_classes, HasChangeClass, change_classes}
use Rattle.ipnet_maps.specs.Classes.{HasSharedClass, shared_classes}
use Rattle.ipnet_maps.specs.Runs.{HasManyRuns}
use Rattle.ipnet_maps.specs.Drawings.{IsDepthOf, IsRectangleCount, AreLayersOf}

-- The address is in one of the sets.
abbrev pub IsListed : Lists → Address → Type 0
IsListed (One set) = IsMember set.now
IsListed (Change before after) = IsInEither (IsMember before.now) (IsMember after.now)
IsListed (Several sets) = λ x. Any (λ set. IsMember set x) sets.now

-- The cell has this class.
abbrev pub HasClass : Lists → Class → Network → Type 0
HasClass (One set) = HasLevelClass (IsMember set.now)
HasClass (Change before after) = HasChangeClass (IsMember before.now) (IsMember after.now)
HasClass (Several sets) = HasSharedClass sets.now

-- The classes that a cell can have, in the order of the layers.
abbrev pub classes_of : Lists → List Class
classes_of (One set) = level_classes
classes_of (Change before after) = change_classes
classes_of (Several sets) = shared_classes sets.now

-- Cells without an address divide the set of a map of one set into more parts than a map may have rectangles.
abbrev pub AreDivided : Lists → ℕ → Type 0
AreDivided (One set) len = HasManyRuns (IsMember set.now) len
AreDivided (Change before after) len = ⊥
AreDivided (Several sets) len = ⊥

-- With more bits there are more rectangles than a map may have.
abbrev pub IsTooDeepAfter : Lists → Network → ℕ → Type 0
IsTooDeepAfter lists frame depth = (deeper count : ℕ) → depth < deeper → IsDepthOf frame deeper
    → IsRectangleCount (HasClass lists) (classes_of lists) frame deeper count → 65536 < count

-- With this many bits there are more rectangles than a map may have. With 16 or fewer there are not.
abbrev pub IsTooDeep : Lists → Network → ℕ → Type 0
IsTooDeep lists frame depth = (16 < depth)
    × ((count : ℕ) → IsRectangleCount (HasClass lists) (classes_of lists) frame depth count → 65536 < count)

-- The drawing shows this many bits.
abbrev pub IsDrawnAt : Lists → Network → ℕ → Drawing → Type 0
IsDrawnAt lists frame depth d = (d.depth ≡ depth)
    × AreLayersOf (IsListed lists) (HasClass lists) (classes_of lists) frame d.depth d.layers.items

-- The second set has the addresses of the first that are in the frame.
abbrev pub IsPartOf : Network → IpSet → IpSet → Type 0
IsPartOf frame set part = (x : Address) → IsMember part x ↔ IsInPart (IsMember set) frame x
