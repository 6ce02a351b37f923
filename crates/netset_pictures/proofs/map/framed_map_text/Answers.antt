use Rattle.std.proofs.Common.{rules}
use Rattle.ipnet.specs.NetworkOf.{ip_network}
use Rattle.netset_pictures.proofs.map.framed_map_text.Goals as goal

pub returns-clause-map : goal.returns-clause-map
returns-clause-map c = record {
  network = ip_network c.in-Some.network;
  is_frame = search rules;
  shown = c.in_ok-set_map_text.ensures;
}
