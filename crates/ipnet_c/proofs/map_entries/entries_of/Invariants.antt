-- the entries so far are of the networks so far
use Rattle.std.proofs.Common.{◌≡◌, All, map}
use Rattle.ipnet_c.specs.Pictures.{IsPlainEntry}
use Rattle.ipnet_c.proofs.map_entries.entries_of.Given as goal

abbrev pub invariant-loop-network : goal.invariant-loop-network
invariant-loop-network l = (map (λ e. e.network) l.entries.items ≡ l.yielded) × All IsPlainEntry l.entries.items
