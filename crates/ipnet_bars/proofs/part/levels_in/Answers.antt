use Rattle.std.proofs.Common.{map, subst}
use Rattle.std.specs.List.{AllZip}
use Rattle.std.proofs.lemmas.Result.{IfOk-weaker}
use Rattle.ipnet.specs.NetworkOf.{ip_network}
use Rattle.ipnet_sets.specs.Members.{IsMember}
use Rattle.ipnet_bars.specs.Parts.{IsLevelOf, AreLevelsOf}
use Rattle.ipnet_bars.proofs.PartLaws.{levels_of_part}
use Rattle.ipnet_bars.proofs.part.levels_in.Goals as goal

pub returns : goal.returns
returns c =
    let set = c.args.set.now in
    let n = ip_network c.args.network.now in
    let cells = c.in_ok-cells.cells.items in
    IfOk-weaker c.levels_of.result
    (λ levels. AllZip (IsLevelOf (IsMember c.in_ok-part.part)) (map ip_network c.as_slice.result.now) levels.items)
    (λ levels. AreLevelsOf (IsMember set) n c.args.prefix_len levels.items)
    (λ levels each. record {
      cells = map ip_network cells;
      subnets = c.in_ok-cells.ensures;
      each = levels_of_part (IsMember set) (IsMember c.in_ok-part.part) n (map ip_network cells) levels.items
          c.in_ok-part.ensures.members (λ k h. ((c.in_ok-cells.ensures.members k).0 h).within)
          (subst (λ z. AllZip (IsLevelOf (IsMember c.in_ok-part.part)) (map ip_network z) levels.items)
          c.as_slice.ensures.value each);
    })
    c.levels_of.ensures
