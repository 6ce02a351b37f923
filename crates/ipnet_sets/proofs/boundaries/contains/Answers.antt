use Rattle.std.proofs.Common.{map, sym}
use Rattle.ipnet_sets.proofs.SplitLaws.{inside_from_split}
use Rattle.ipnet_sets.proofs.boundaries.contains.Goals as goal

pub returns : goal.returns
returns g c =
    sym (inside_from_split (map g.T.Number.number c.args.boundaries.now) (g.T.Number.number c.args.number)
    c.boundaries_up_to.result c.boundaries_up_to.ensures)
