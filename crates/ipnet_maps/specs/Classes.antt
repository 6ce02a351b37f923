-- Classes: what a cell of a map shows, for one set, for a change and for several sets.
use Rattle.std.specs.Prelude.{ℕ, zero, suc, ◌+◌, List, [], ◌∷◌, length}
use Rattle.ipnet_base.specs.Address.{Address}
use Rattle.ipnet_base.specs.Network.{Network}
use Rattle.ipnet_sets.specs.declared.set.IpSet.{IpSet}
use Rattle.ipnet_sets.specs.Members.{IsMember}
use Rattle.ipnet_maps.specs.declared.level.Level.TheVariants as level
use Rattle.ipnet_bars.specs.declared.change.Change.TheVariants as change
use Rattle.ipnet_bars.specs.Parts.{HasSome, HasNone, HasAll}
use Rattle.ipnet_maps.specs.Levels.{IsLevelOf}
use Rattle.ipnet_bars.specs.Changes.{IsChange}
use Rattle.ipnet_maps.specs.declared.class.Class.{Class}
use Rattle.ipnet_maps.specs.declared.class.Class.TheVariants.{Sparse, BelowQuarter, FromQuarter, Whole}
use Rattle.ipnet_maps.specs.declared.class.Class.TheVariants.{Removed, Added, Mixed, KeptPart, KeptWhole}
use Rattle.ipnet_maps.specs.declared.class.Class.TheVariants.{Overlap, Several, PartOf, WholeOf}
use Rattle.ipnet_maps.specs.Cells.{IsKeptPart, IsKeptWhole}
use Rattle.ipnet_maps.specs.Shared.{IsInTwo}

-- The cell has this class in a map of one set: its level.
-- Example: if the set is 10.0.0.0 to 10.0.0.9, 10.0.0.0/29 is `Whole` and 10.0.0.8/29 is `FromQuarter`.
abbrev pub HasLevelClass : (Address → Type 0) → Class → Network → Type 0
HasLevelClass InSet Sparse n = IsLevelOf InSet n level.Sparse
HasLevelClass InSet BelowQuarter n = IsLevelOf InSet n level.BelowQuarter
HasLevelClass InSet FromQuarter n = IsLevelOf InSet n level.FromQuarter
HasLevelClass InSet Whole n = IsLevelOf InSet n level.Whole
HasLevelClass InSet q n = ⊥

-- The classes of a map of one set, in the order of its layers.
abbrev pub level_classes : List Class
level_classes = Sparse ∷ BelowQuarter ∷ FromQuarter ∷ Whole ∷ []

-- The cell has this class in a map of a change. A cell is kept only if nothing changes in it.
-- Example: from 10.0.0.0/30 to 10.0.0.2/31, 10.0.0.0/30 is `Removed`, and 10.0.0.2/31 is `KeptWhole`.
abbrev pub HasChangeClass : (Address → Type 0) → (Address → Type 0) → Class → Network → Type 0
HasChangeClass Before After Removed n = IsChange Before After n change.Removed
HasChangeClass Before After Added n = IsChange Before After n change.Added
HasChangeClass Before After Mixed n = IsChange Before After n change.Mixed
HasChangeClass Before After KeptPart n = IsKeptPart Before After n
HasChangeClass Before After KeptWhole n = IsKeptWhole Before After n
HasChangeClass Before After q n = ⊥

-- The classes of a map of a change, in the order of its layers.
abbrev pub change_classes : List Class
change_classes = Removed ∷ Added ∷ Mixed ∷ KeptPart ∷ KeptWhole ∷ []

-- The member at this place of the list has the property.
-- Example: in the list 1, 2, 4, the member at place 1 is even.
abbrev pub HasAt : {X : Type 0} → (X → Type 0) → List X → ℕ → Type 0
HasAt HasProperty [] place = ⊥
HasAt HasProperty (x ∷ xs) zero = HasProperty x
HasAt HasProperty (x ∷ xs) (suc place) = HasAt HasProperty xs place

-- The cell has this class in a map of several sets.
-- Example: of 10.0.0.0 to 10.0.0.3 and 10.0.0.3 to 10.0.0.9, 10.0.0.0/30 is `Overlap`, and 10.0.0.8/30 is `PartOf 1`.
abbrev pub HasSharedClass : List IpSet → Class → Network → Type 0
HasSharedClass sets Overlap n = HasSome (λ x. IsInTwo (λ set. IsMember set x) sets) n
HasSharedClass sets Several n = IsInTwo (λ set. HasSome (IsMember set) n) sets
    × HasNone (λ x. IsInTwo (λ set. IsMember set x) sets) n
HasSharedClass sets (PartOf place) n = ¬ (IsInTwo (λ set. HasSome (IsMember set) n) sets)
    × HasAt (λ set. HasSome (IsMember set) n × ¬ (HasAll (IsMember set) n)) sets place
HasSharedClass sets (WholeOf place) n = ¬ (IsInTwo (λ set. HasSome (IsMember set) n) sets)
    × HasAt (λ set. HasAll (IsMember set) n) sets place
HasSharedClass sets q n = ⊥

-- The classes of cells that only one set has, for this many sets from this place on.
abbrev pub single_classes : ℕ → ℕ → List Class
single_classes place zero = []
single_classes place (suc count) = PartOf place ∷ WholeOf place ∷ single_classes (place + 1) count

-- The classes of a map of several sets, in the order of its layers.
abbrev pub shared_classes : List IpSet → List Class
shared_classes sets = Overlap ∷ Several ∷ single_classes 0 (length sets)
