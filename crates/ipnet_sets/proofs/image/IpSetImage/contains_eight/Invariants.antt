-- Each lane before the index is inside if the number of boundaries up to its number is odd.
use Rattle.std.proofs.Common.{◌≡◌, ℕ, ◌<◌, false, length, get_or}
use Rattle.ipnet_sets.proofs.InsideLaws.{is_odd}
use Rattle.ipnet_sets.proofs.image.IpSetImage.contains_eight.Given as goal

abbrev pub invariant-loop-lane : goal.invariant-loop-lane
invariant-loop-lane l = record {
  eight : length l.inside ≡ 8;
  done : (i : ℕ) → i < l.lane → get_or l.inside i false ≡ is_odd (get_or l.turned i 0);
}
