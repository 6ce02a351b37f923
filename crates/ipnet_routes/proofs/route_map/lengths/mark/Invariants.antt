-- The masks before the index have the length, and all keep what they have.
use Rattle.std.proofs.Common.{◌≡◌, ◌<◌, ◌≤◌, ℕ, length, get_or}
use Rattle.ipnet_routes.specs.RouteLengths.{HasLength}
use Rattle.ipnet_routes.proofs.route_map.lengths.mark.Given as goal

abbrev pub invariant-loop-index : goal.invariant-loop-index
invariant-loop-index l = record {
  size : length l.masks.items ≡ length l.fn.masks.items;
  keeps : (i n : ℕ) → HasLength (get_or l.fn.masks.items i 0) n → HasLength (get_or l.masks.items i 0) n;
  has : (i : ℕ) → l.first ≤ i → i < l.index → i < length l.masks.items → HasLength (get_or l.masks.items i 0) l.len;
}
