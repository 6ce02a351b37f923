-- Drawings: the rectangles of each class of cells, and how many bits a map shows.
use Rattle.std.specs.Prelude.{◌≡◌, ◌↔◌, ℕ, ◌+◌, ◌%◌, ◌<◌, ◌≤◌, List, [], ◌∷◌, ◌++◌, length, All, Any}
use Rattle.std.specs.List.{AllZip}
use Rattle.ipnet_base.specs.Address.{Address, width}
use Rattle.ipnet_base.specs.Network.{Network, InBlock}
use Rattle.ipnet_base.specs.Blocks.{AreMaximalBlocks}
use Rattle.ipnet.specs.NetworkParts.{network_at}
use Rattle.ipnet_bars.specs.Parts.{HasSome}
use Rattle.ipnet_maps.specs.declared.layout.Rectangle.{Rectangle}
use Rattle.ipnet_maps.specs.declared.class.Class.{Class}
use Rattle.ipnet_maps.specs.declared.layers.Layer.{Layer}
use Rattle.ipnet_maps.specs.declared.drawing.Drawing.{Drawing}
use Rattle.ipnet_maps.specs.Cells.{IsInCell}
use Rattle.ipnet_maps.specs.Places.{AreRectanglesOf, IsDrawnIn}
use Rattle.ipnet_maps.specs.Shared.{IsInTwo}

-- The address is in the frame, and in a cell with this property, if cells are `depth` bits longer than the frame.
-- Example: if the cells in 10.0.1.0/24 have the property, and the frame is 10.0.0.0/23 with 1 bit, the addresses are
-- 10.0.1.0/24.
pub record IsShown (HasProperty : Network → Type 0) (frame : Network) (depth : ℕ) (x : Address) : Type 0 where
  pub in_frame : InBlock frame x
  pub in_cell : IsInCell (frame.prefix_len + depth) HasProperty x

-- The layer has the fewest rectangles of networks that show exactly the cells of the class.
abbrev pub IsLayerOf : (Class → Network → Type 0) → Network → ℕ → Class → Layer → Type 0
IsLayerOf HasClass frame depth q layer = (layer.class ≡ q)
    × AreRectanglesOf (IsShown (HasClass q) frame depth) frame depth layer.rectangles.items

-- The rectangles of all layers.
abbrev pub all_rectangles : List Layer → List Rectangle
all_rectangles [] = []
all_rectangles (layer ∷ layers) = layer.rectangles.items ++ all_rectangles layers

-- The number of members of all lists. Example: 3 for 1, 2 and 3.
abbrev pub total_of : {X : Type 0} → List (List X) → ℕ
total_of [] = 0
total_of (xs ∷ rest) = length xs + total_of rest

-- All layers together have this many rectangles, if cells are `depth` bits longer than the frame: one for each maximal
-- block of the cells of each class.
pub record IsRectangleCount (HasClass : Class → Network → Type 0) (classes : List Class) (frame : Network) (depth : ℕ)
    (count : ℕ) : Type 0 where
  pub networks : List (List Network)
  pub blocks : AllZip (λ q list. AreMaximalBlocks (IsShown (HasClass q) frame depth) 0 list) classes networks
  pub total : total_of networks ≡ count

-- A map of the frame can show this many bits.
pub record IsDepthOf (frame : Network) (depth : ℕ) : Type 0 where
  pub short : depth ≤ 20
  pub fits : frame.prefix_len + depth ≤ width frame.family
  pub parity : depth % 2 ≡ frame.prefix_len % 2

-- The layers show the cells of each of these classes, and together all cells with an address that is in a list.
pub record AreLayersOf (InList : Address → Type 0) (HasClass : Class → Network → Type 0) (classes : List Class)
    (frame : Network) (depth : ℕ) (layers : List Layer) : Type 0 where
  -- Each class has one layer, in this order: the fewest rectangles that show exactly its cells.
  pub layers_of : AllZip (IsLayerOf HasClass frame depth) classes layers
  -- A cell is in a rectangle of a layer if and only if it has the class of the layer.
  pub cells : (x : Address) → InBlock frame x → All (λ layer. Any (IsDrawnIn frame depth x) layer.rectangles.items
      ↔ HasClass layer.class (network_at x (frame.prefix_len + depth))) layers
  -- A cell is in a rectangle if and only if it has an address that is in a list.
  pub covered : (x : Address) → InBlock frame x → Any (IsDrawnIn frame depth x) (all_rectangles layers)
      ↔ HasSome InList (network_at x (frame.prefix_len + depth))
  -- No cell is in two rectangles.
  pub apart : (x : Address) → InBlock frame x → ¬ (IsInTwo (IsDrawnIn frame depth x) (all_rectangles layers))
  -- There are at most 65,536 rectangles.
  pub few : length (all_rectangles layers) ≤ 65536

-- The drawing shows the cells of each of these classes, with as many bits as it can.
pub record IsDrawingOf (InList : Address → Type 0) (HasClass : Class → Network → Type 0) (classes : List Class)
    (frame : Network) (d : Drawing) : Type 0 where
  pub layers : AreLayersOf InList HasClass classes frame d.depth d.layers.items
  pub depth : IsDepthOf frame d.depth
  -- With more bits there are more than 65,536 rectangles.
  pub greatest : (deeper count : ℕ) → d.depth < deeper → IsDepthOf frame deeper
      → IsRectangleCount HasClass classes frame deeper count → 65536 < count
