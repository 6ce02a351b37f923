use Rattle.std.proofs.Common.{rules}
use Rattle.ipnet.specs.NetworkOf.{ip_network}
use Rattle.netset_pictures.proofs.map.framed_change_map_text.Goals as goal

pub returns-in_default-clause-none : goal.returns-in_default-clause-none
returns-in_default-clause-none c = λ none. (c.in_ok-all.all, c.in_ok-all.ensures.members, search rules)

pub returns-clause-map : goal.returns-clause-map
returns-clause-map c = record {
  all = c.in_ok-all.all;
  both = c.in_ok-all.ensures.members;
  network = ip_network c.in-Some.network;
  is_frame = search rules;
  shown = search rules;
}
