-- Places: the rectangle of a network in the map of a frame.
use Rattle.std.specs.Prelude.{ℕ, ◌+◌, ◌-◌, ◌/◌, ◌%◌, ◌^◌, List}
use Rattle.std.specs.List.{AllZip}
use Rattle.ipnet_base.specs.Address.{Address}
use Rattle.ipnet_base.specs.Network.{Network, host_bits}
use Rattle.ipnet_base.specs.Blocks.{AreMaximalBlocks}
use Rattle.ipnet.specs.NetworkParts.{network_at}
use Rattle.ipnet_maps.specs.declared.layout.Rectangle.{Rectangle}
use Rattle.ipnet_maps.specs.Cuts.{column_of, row_of}
use Rattle.ipnet_maps.specs.Squares.{square_cuts, IsRectangleOf, IsInRectangle}

-- The number of the network among the networks of its length in the frame, from 0: the bits of its prefix that are not
-- the prefix of the frame.
-- Example: 10.20.160.0/20 is number 10 in 10.20.0.0/16.
abbrev pub number_in : Network → Network → ℕ
number_in frame n = n.number / 2 ^ host_bits n % 2 ^ (n.prefix_len - frame.prefix_len)

-- The number of the cell of the address, if cells are `depth` bits longer than the frame.
-- Example: in 10.20.0.0/16 with 8 bits, the cell of 10.20.172.9 is 172.
abbrev pub cell_in : Network → ℕ → Address → ℕ
cell_in frame depth x = number_in frame (network_at x (frame.prefix_len + depth))

-- The rectangle of the network in the map of the frame whose cells are `depth` bits longer.
-- Example: in 10.20.0.0/16 with 8 bits, 10.20.160.0/20 has the column 0 and the row 10, is 16 wide and 1 high.
abbrev pub IsRectangleIn : Network → ℕ → Network → Rectangle → Type 0
IsRectangleIn frame depth n r =
    IsRectangleOf frame.prefix_len depth (number_in frame n) (frame.prefix_len + depth - n.prefix_len) r

-- The list has the rectangle of each maximal block of the set, in order.
-- Example: in 10.20.0.0/16 with 8 bits, 10.20.0.0 to 10.20.17.255 are two rectangles: 16 wide and 1 high at row 0, and
-- 2 wide and 1 high at row 1.
pub record AreRectanglesOf (InSet : Address → Type 0) (frame : Network) (depth : ℕ) (rectangles : List Rectangle)
    : Type 0 where
  pub networks : List Network
  pub blocks : AreMaximalBlocks InSet 0 networks
  pub each : AllZip (IsRectangleIn frame depth) networks rectangles

-- The cell of the address is in the rectangle.
abbrev pub IsDrawnIn : Network → ℕ → Address → Rectangle → Type 0
IsDrawnIn frame depth x r =
    let cuts = square_cuts frame.prefix_len depth in
    IsInRectangle r (column_of cuts (cell_in frame depth x)) (row_of cuts (cell_in frame depth x))
