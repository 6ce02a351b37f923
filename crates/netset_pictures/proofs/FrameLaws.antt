-- The frame of a set is the frame of every set with the same addresses.
use Rattle.std.proofs.Common.{◌↔◌, inl, inr}
use Rattle.ipnet_base.specs.Address.{Address, IPv4, IPv6}
use Rattle.ipnet_base.specs.Network.{Network}
use Rattle.ipnet_bars.specs.declared.frame.Frame.{Frame}
use Rattle.ipnet_bars.specs.declared.frame.Frame.TheVariants.{Named, Ipv6, FirstFamily}
use Rattle.ipnet_bars.specs.Frames.{IsFrame, HasNoFrame, all_of}
use Rattle.ipnet_bars.specs.Parts.{HasNone}
use Rattle.ipnet_sets.specs.Parts.{IsInPart}
use Rattle.ipnet_sets.specs.Supernets.{IsSmallestAround}

module _ (A B : Address → Type 0) (same : (x : Address) → A x ↔ B x) where
  in_part : (n : Network) (x : Address) → IsInPart A n x ↔ IsInPart B n x
  in_part n x = (
    λ i. record { in_block = i.in_block; in_set = (same x).0 i.in_set },
    λ i. record { in_block = i.in_block; in_set = (same x).1 i.in_set },
  )

  around_same : (n frame : Network) → IsSmallestAround (IsInPart A n) frame → IsSmallestAround (IsInPart B n) frame
  around_same n frame h = record {
    network = h.network;
    truncated = h.truncated;
    holds = λ x i. h.holds x ((in_part n x).1 i);
    smallest = λ k u all. h.smallest k u (λ x i. all x ((in_part n x).0 i));
  }

  none_same : (n : Network) → HasNone A n → HasNone B n
  none_same n none x inside b = none x inside ((same x).1 b)

  pub frame_same : (frame : Frame) (n : Network) → IsFrame frame A n → IsFrame frame B n
  frame_same (Named network) n h = h
  frame_same Ipv6 n h = around_same (all_of IPv6) n h
  frame_same FirstFamily n (inl h) = inl (around_same (all_of IPv4) n h)
  frame_same FirstFamily n (inr h) = inr (none_same (all_of IPv4) h.0, around_same (all_of IPv6) n h.1)

  pub no_frame_same : (frame : Frame) → HasNoFrame frame A → HasNoFrame frame B
  no_frame_same (Named network) h = h
  no_frame_same Ipv6 h = none_same (all_of IPv6) h
  no_frame_same FirstFamily h = (none_same (all_of IPv4) h.0, none_same (all_of IPv6) h.1)
