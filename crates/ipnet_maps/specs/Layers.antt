-- The cells of each class, and their layers. Only private contracts use these.
use Rattle.std.specs.Prelude.{◌≡◌, ◌↔◌, ℕ, ◌+◌, Any}
use Rattle.ipnet_base.specs.Address.{Address}
use Rattle.ipnet_base.specs.Network.{Network, InBlock}
use Rattle.ipnet.specs.NetworkParts.{network_at}
use Rattle.ipnet_sets.specs.Members.{IsMember}
use Rattle.ipnet_maps.specs.declared.class.Class.{Class}
use Rattle.ipnet_maps.specs.declared.layers.Layer.{Layer}
use Rattle.ipnet_maps.specs.declared.layers.ClassCells.{ClassCells}
use Rattle.ipnet_maps.specs.Cells.{IsInCell}
use Rattle.ipnet_maps.specs.Places.{AreRectanglesOf, IsDrawnIn}

-- The addresses are the cells of this class. Cells have this prefix length.
abbrev pub IsClassCells : (Class → Network → Type 0) → ℕ → Class → ClassCells → Type 0
IsClassCells HasClass cell_len q c = (c.class ≡ q)
    × ((x : Address) → IsMember c.cells x ↔ IsInCell cell_len (HasClass q) x)

-- The addresses are in the frame, and with an address they have all of its cell.
pub record AreCellsIn (frame : Network) (depth : ℕ) (c : ClassCells) : Type 0 where
  pub inside : (x : Address) → IsMember c.cells x → InBlock frame x
  pub whole : (x y : Address) → IsMember c.cells x → InBlock (network_at x (frame.prefix_len + depth)) y
      → IsMember c.cells y

-- The layer has the class, and the fewest rectangles that show exactly its cells.
pub record IsLayerOfCells (frame : Network) (depth : ℕ) (c : ClassCells) (layer : Layer) : Type 0 where
  pub of_class : layer.class ≡ c.class
  pub rectangles : AreRectanglesOf (IsMember c.cells) frame depth layer.rectangles.items
  pub shown : (x : Address) → InBlock frame x
      → IsMember c.cells x ↔ Any (IsDrawnIn frame depth x) layer.rectangles.items
