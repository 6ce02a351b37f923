-- Squares, network by network.
use Rattle.std.proofs.Common.{◌+◌, ◌<◌, ◌≤◌, ℕ, List, get_or, length, map, subst, take}
use Rattle.std.proofs.Common.{arith, Contains}
use Rattle.std.proofs.lemmas.Bool.Decides.{nat_tests}
use Rattle.std.proofs.lemmas.List.{get_or-map, length-map, take_all}
use Rattle.std.proofs.lemmas.List.Elements.{Contains-get_or}
use Rattle.std.specs.List.{AllZip}
use Rattle.ipnet.specs.NetworkOf.{ip_network}
use Rattle.ipnet.specs.NetworkParts.{AreSubnetsOfLength, IsSubnetOfLength}
use Rattle.ipnet.specs.declared.net.IpNet.{IpNet}
use Rattle.ipnet_base.specs.Network.{Network}
use Rattle.svg_maps.specs.declared.chart.Square.{Square}
use Rattle.svg_maps.specs.declared.square.Counted.{Counted}
use Rattle.svg_maps.specs.Squares.{AreSquaresOf, IsSquareOf, square_bits}

pub all_squares : (frame : Network) (depth : ℕ) (counted : List Counted) (networks : List IpNet) (i : ℕ)
    (squares : List Square) → length networks ≤ i
    → AreSubnetsOfLength frame (frame.prefix_len + square_bits frame.prefix_len depth) (map ip_network networks)
    → AllZip (IsSquareOf frame depth counted) (map ip_network (take i networks)) squares
    → AreSquaresOf frame depth counted squares
all_squares frame depth counted networks i squares past all each = record {
  networks = map ip_network networks;
  all = all;
  each = subst (λ z. AllZip (IsSquareOf frame depth counted) (map ip_network z) squares) (take_all i networks past)
      each;
}

-- each of them is a subnet of the frame
at_subnet : (frame : Network) (len : ℕ) (networks : List IpNet) (i : ℕ) (d : IpNet) → i < length networks
    → AreSubnetsOfLength frame len (map ip_network networks)
    → IsSubnetOfLength frame len (ip_network (get_or networks i d))
at_subnet frame len networks i d within all =
    let list = map ip_network networks in
    (all.members (ip_network (get_or networks i d))).0
    (subst (Contains list) (get_or-map ip_network networks i d (ip_network d) within)
    (Contains-get_or list i (ip_network d) (omega (arith, within, length-map networks ip_network))))

bits_fit : (frame_len depth : ℕ) → square_bits frame_len depth ≤ depth
bits_fit frame_len depth = grind (arith, nat_tests)

-- none of them is smaller than a cell
pub at_large : (frame : Network) (depth : ℕ) (networks : List IpNet) (i : ℕ) (d : IpNet) → i < length networks
    → AreSubnetsOfLength frame (frame.prefix_len + square_bits frame.prefix_len depth) (map ip_network networks)
    → (ip_network (get_or networks i d)).prefix_len ≤ frame.prefix_len + depth
at_large frame depth networks i d within all =
    let is = at_subnet frame (frame.prefix_len + square_bits frame.prefix_len depth) networks i d within all in
    omega (arith, is.of_length, bits_fit frame.prefix_len depth)
