-- The items so far are VRPs.
use Rattle.std.proofs.Common.{map, take}
use Rattle.serde_json.specs.View.{view}
use Rattle.netset_origins.specs.VrpJson.{AreVrpItems}
use Rattle.netset_origins.proofs.vrp_json.vrps_in.Given as goal

abbrev pub invariant-loop-index : goal.invariant-loop-index
invariant-loop-index l = AreVrpItems l.grammar (map view (take l.index l.items)) l.vrps.items
