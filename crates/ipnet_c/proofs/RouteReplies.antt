-- Replies with the longest route for an address or a network.
use Rattle.std.proofs.Common.{◌≡◌, ℕ, ◌<◌, ◌≤◌, List, length, Contains, Ok, Err, inl, inr, refl, sym, subst, arith}
use Rattle.ipnet.specs.Address.{Address}
use Rattle.ipnet.specs.Network.{Network, IsNetwork, InBlock, IsSubnetOf}
use Rattle.ipnet.specs.Blocks.{IsCoveredBy}
use Rattle.ipnet.specs.NetworkOf.{ip_network}
use Rattle.ipnet.specs.declared.compact.CompactError.{CompactError}
use Rattle.ipnet.specs.declared.compact.CompactError.TheVariants.{Length, Variant, Prefix}
use Rattle.ipnet.specs.declared.net.IpNet.{IpNet}
use Rattle.ipnet_routes.specs.Routes.{Route, networks_of, IsLongestMatch, IsLongestHolder}
use Rattle.ipnet_routes.specs.TableImages.{HasTableHeader, IsStoredRoute, IsTableImageOf}
use Rattle.ipnet_c.specs.Replies.{AreBytesOf}
use Rattle.ipnet_c.specs.Statuses.{status_of_bytes}
use Rattle.ipnet_c.specs.SetReplies.{AreOctetsOf}
use Rattle.ipnet_c.specs.RouteReplies.{HasNetwork, IsRouteReply, IsCoveringReply}
use Rattle.ipnet_c.proofs.ListReplies.{TellsFaults}
use Rattle.ipnet_c.proofs.StatusLaws.{differ}
use Rattle.ipnet_c.proofs.TableReplies.{address_once, address_len}

-- a route
pub route_found : (table bytes octets old new : List ℕ) (y : Address) (n : Network) (value_old value : ℕ)
    → bytes ≡ table → HasTableHeader bytes → AreOctetsOf octets y → 18 ≤ length old → HasNetwork n old new
    → ((t : List (Route ℕ)) → IsTableImageOf bytes t → IsLongestMatch t y (n, value))
    → ((t : List (Route ℕ)) → IsTableImageOf bytes t → (IsCoveredBy (networks_of t) y → ⊥) → ⊥)
    → IsNetwork n → IsStoredRoute bytes (n, value) → InBlock n y
    → IsRouteReply table octets old new value_old value 1
route_found table bytes octets old new y n value_old value same header of_y room written found held valid stored
    holds = record {
      some = λ e. (
        n,
        valid,
        written,
        subst (λ z. IsStoredRoute z (n, value)) same stored,
        λ x of_x. subst (InBlock n) (address_once octets y x of_y of_x) holds,
        λ t x image of_x. subst (λ z. IsLongestMatch t z (n, value)) (address_once octets y x of_y of_x)
            (found t (subst (λ z. IsTableImageOf z t) (sym same) image)),
      );
      none = λ t x image of_x enough. (
        λ e. absurd (differ 1 0 refl e),
        λ out. absurd (held t (subst (λ z. IsTableImageOf z t) (sym same) image)
            (subst (λ z. IsCoveredBy (networks_of t) z → ⊥) (sym (address_once octets y x of_y of_x)) out)),
      );
      known = λ l enough h. inr refl;
      wrong_length = (
        λ e. absurd (differ 1 6 refl e),
        λ wrong. absurd (wrong (address_len y.family y.number octets of_y.octets_are)),
      );
      too_short = (λ e. absurd (differ 1 4 refl e), λ both. let less = both.1 in absurd (omega (arith, room, less)));
      not_a_table = (λ e. absurd (differ 1 13 refl e), λ both. absurd (both.2 (subst HasTableHeader same header)));
      kept = λ other. absurd (other refl);
    }

-- no route
pub route_missing : (table bytes octets old : List ℕ) (y : Address) (value : ℕ) → bytes ≡ table → HasTableHeader bytes
    → AreOctetsOf octets y → 18 ≤ length old
    → ((t : List (Route ℕ)) → IsTableImageOf bytes t → IsCoveredBy (networks_of t) y → ⊥)
    → IsRouteReply table octets old old value value 0
route_missing table bytes octets old y value same header of_y room out = record {
  some = λ e. absurd (differ 0 1 refl e);
  none = λ t x image of_x enough. (
    λ e. subst (λ z. IsCoveredBy (networks_of t) z → ⊥) (address_once octets y x of_y of_x)
        (out t (subst (λ z. IsTableImageOf z t) (sym same) image)),
    λ no. refl,
  );
  known = λ l enough h. inl refl;
  wrong_length = (
    λ e. absurd (differ 0 6 refl e),
    λ wrong. absurd (wrong (address_len y.family y.number octets of_y.octets_are)),
  );
  too_short = (λ e. absurd (differ 0 4 refl e), λ both. let less = both.1 in absurd (omega (arith, room, less)));
  not_a_table = (λ e. absurd (differ 0 13 refl e), λ both. absurd (both.2 (subst HasTableHeader same header)));
  kept = λ other. (refl, refl);
}

-- a network of the table around the network
pub covering_found : (table bytes network old new : List ℕ) (net : IpNet) (k : Network) (value_old value : ℕ)
    → TellsFaults network (Ok net) → AreBytesOf network (ip_network net) → bytes ≡ table → HasTableHeader bytes
    → 18 ≤ length old → HasNetwork k old new
    → ((t : List (Route ℕ)) → IsTableImageOf bytes t → IsLongestHolder t (ip_network net) (k, value))
    → IsNetwork k → IsStoredRoute bytes (k, value) → IsSubnetOf (ip_network net) k
    → IsCoveringReply table network old new value_old value 1
covering_found table bytes network old new net k value_old value faults is same header room written found valid stored
    holds =
    record {
      some = λ e. (
        ip_network net,
        k,
        is,
        valid,
        written,
        subst (λ z. IsStoredRoute z (k, value)) same stored,
        holds,
        λ t image. found t (subst (λ z. IsTableImageOf z t) (sym same) image),
      );
      none = λ e. absurd (differ 1 0 refl e);
      known = λ n are enough h. inr refl;
      wrong_length = (λ e. absurd (differ 1 6 refl e), λ wrong. let clash = faults.length.1 wrong in absurd cc);
      unknown_family = (λ e. absurd (differ 1 7 refl e), λ wrong. let clash = faults.variant.1 wrong in absurd cc);
      prefix_too_long = (λ e. absurd (differ 1 8 refl e), λ wrong. let clash = faults.prefix.1 wrong in absurd cc);
      too_short = (λ e. absurd (differ 1 4 refl e), λ both. let less = both.1 in absurd (omega (arith, room, less)));
      not_a_table = (λ e. absurd (differ 1 13 refl e), λ both. absurd (both.2 (subst HasTableHeader same header)));
      kept = λ other. absurd (other refl);
    }

-- no network of the table around the network
pub covering_missing : (table bytes network old : List ℕ) (net : IpNet) (value : ℕ) → TellsFaults network (Ok net)
    → AreBytesOf network (ip_network net) → bytes ≡ table → HasTableHeader bytes → 18 ≤ length old
    → ((t : List (Route ℕ)) → IsTableImageOf bytes t → (k : Network) → Contains (networks_of t) k
    → ¬ (IsSubnetOf (ip_network net) k))
    → IsCoveringReply table network old old value value 0
covering_missing table bytes network old net value faults is same header room out = record {
  some = λ e. absurd (differ 0 1 refl e);
  none = λ e. (
    ip_network net,
    is,
    λ t image. out t (subst (λ z. IsTableImageOf z t) (sym same) image),
  );
  known = λ n are enough h. inl refl;
  wrong_length = (λ e. absurd (differ 0 6 refl e), λ wrong. let clash = faults.length.1 wrong in absurd cc);
  unknown_family = (λ e. absurd (differ 0 7 refl e), λ wrong. let clash = faults.variant.1 wrong in absurd cc);
  prefix_too_long = (λ e. absurd (differ 0 8 refl e), λ wrong. let clash = faults.prefix.1 wrong in absurd cc);
  too_short = (λ e. absurd (differ 0 4 refl e), λ both. let less = both.1 in absurd (omega (arith, room, less)));
  not_a_table = (λ e. absurd (differ 0 13 refl e), λ both. absurd (both.2 (subst HasTableHeader same header)));
  kept = λ other. (refl, refl);
}

-- too little room for a network
pub covering_short : (table network old : List ℕ) (net : IpNet) (value : ℕ) → TellsFaults network (Ok net)
    → AreBytesOf network (ip_network net) → length old < 18 → IsCoveringReply table network old old value value 4
covering_short table network old net value faults is less = record {
  some = λ e. absurd (differ 4 1 refl e);
  none = λ e. absurd (differ 4 0 refl e);
  known = λ n are enough h. absurd (omega (arith, enough, less));
  wrong_length = (λ e. absurd (differ 4 6 refl e), λ wrong. let clash = faults.length.1 wrong in absurd cc);
  unknown_family = (λ e. absurd (differ 4 7 refl e), λ wrong. let clash = faults.variant.1 wrong in absurd cc);
  prefix_too_long = (λ e. absurd (differ 4 8 refl e), λ wrong. let clash = faults.prefix.1 wrong in absurd cc);
  too_short = (λ e. ((ip_network net, is), less), λ both. refl);
  not_a_table = (λ e. absurd (differ 4 13 refl e), λ both. let room = both.1 in absurd (omega (arith, room, less)));
  kept = λ other. (refl, refl);
}

-- bytes that have no header of an image
pub covering_refused : (table network old : List ℕ) (net : IpNet) (value : ℕ) → TellsFaults network (Ok net)
    → AreBytesOf network (ip_network net) → 18 ≤ length old → ¬ (HasTableHeader table)
    → IsCoveringReply table network old old value value 13
covering_refused table network old net value faults is room bare = record {
  some = λ e. absurd (differ 13 1 refl e);
  none = λ e. absurd (differ 13 0 refl e);
  known = λ n are enough h. absurd (bare h);
  wrong_length = (λ e. absurd (differ 13 6 refl e), λ wrong. let clash = faults.length.1 wrong in absurd cc);
  unknown_family = (λ e. absurd (differ 13 7 refl e), λ wrong. let clash = faults.variant.1 wrong in absurd cc);
  prefix_too_long = (λ e. absurd (differ 13 8 refl e), λ wrong. let clash = faults.prefix.1 wrong in absurd cc);
  too_short = (λ e. absurd (differ 13 4 refl e), λ both. let less = both.1 in absurd (omega (arith, room, less)));
  not_a_table = (λ e. ((ip_network net, is), room, bare), λ both. refl);
  kept = λ other. (refl, refl);
}

-- bytes that are not a network
pub covering_fault : (table network old : List ℕ) (error : CompactError) (value : ℕ) → TellsFaults network (Err error)
    → ((n : Network) → ¬ (AreBytesOf network n))
    → IsCoveringReply table network old old value value (status_of_bytes error)
covering_fault table network old Length value faults bare = record {
  some = λ e. absurd (differ 6 1 refl e);
  none = λ e. absurd (differ 6 0 refl e);
  known = λ n are enough h. absurd (bare n are);
  wrong_length = (λ e. faults.length.0 refl, λ wrong. refl);
  unknown_family = (λ e. absurd (differ 6 7 refl e), λ wrong. let clash = faults.variant.1 wrong in absurd cc);
  prefix_too_long = (λ e. absurd (differ 6 8 refl e), λ wrong. let clash = faults.prefix.1 wrong in absurd cc);
  too_short = (λ e. absurd (differ 6 4 refl e), λ both. absurd (bare both.0.0 both.0.1));
  not_a_table = (λ e. absurd (differ 6 13 refl e), λ both. absurd (bare both.0.0 both.0.1));
  kept = λ other. (refl, refl);
}
covering_fault table network old Variant value faults bare = record {
  some = λ e. absurd (differ 7 1 refl e);
  none = λ e. absurd (differ 7 0 refl e);
  known = λ n are enough h. absurd (bare n are);
  wrong_length = (λ e. absurd (differ 7 6 refl e), λ wrong. let clash = faults.length.1 wrong in absurd cc);
  unknown_family = (λ e. faults.variant.0 refl, λ wrong. refl);
  prefix_too_long = (λ e. absurd (differ 7 8 refl e), λ wrong. let clash = faults.prefix.1 wrong in absurd cc);
  too_short = (λ e. absurd (differ 7 4 refl e), λ both. absurd (bare both.0.0 both.0.1));
  not_a_table = (λ e. absurd (differ 7 13 refl e), λ both. absurd (bare both.0.0 both.0.1));
  kept = λ other. (refl, refl);
}
covering_fault table network old Prefix value faults bare = record {
  some = λ e. absurd (differ 8 1 refl e);
  none = λ e. absurd (differ 8 0 refl e);
  known = λ n are enough h. absurd (bare n are);
  wrong_length = (λ e. absurd (differ 8 6 refl e), λ wrong. let clash = faults.length.1 wrong in absurd cc);
  unknown_family = (λ e. absurd (differ 8 7 refl e), λ wrong. let clash = faults.variant.1 wrong in absurd cc);
  prefix_too_long = (λ e. faults.prefix.0 refl, λ wrong. refl);
  too_short = (λ e. absurd (differ 8 4 refl e), λ both. absurd (bare both.0.0 both.0.1));
  not_a_table = (λ e. absurd (differ 8 13 refl e), λ both. absurd (bare both.0.0 both.0.1));
  kept = λ other. (refl, refl);
}
